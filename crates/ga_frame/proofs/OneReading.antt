-- Words are one list of frames at most, or have one first fault.
use Rattle.std.proofs.Common.{◌≡◌, ◌∙◌, ◌++◌, ℕ, false, List, [], ◌∷◌, inl, inr, All, length, Option, Some, None, ◌⊎◌, refl, sym, ap, subst, append-nil, append_assoc, arith, length-append}
use Rattle.std.specs.Prelude.{◌==◌, nat_lt}
use Rattle.std.proofs.lemmas.Bool.Decides.{nat_tests}
use Rattle.std.specs.List.{flat_map}
use Rattle.std.proofs.lemmas.Bool.{false≢true}
use Rattle.std.proofs.lemmas.List.Elements.{All-cons, All-head, All-nil, All-tail}
use Rattle.ga_frame.specs.Frame.{AreFrames, FrameView, GoesOn, HasNoFrames, IsAfterEnd, IsFirstFault, IsFrameFault, MORE, WellFormed, fault_at, words_of}
use Rattle.ga_frame.specs.declared.error.FrameError.{FrameError}
use Rattle.ga_frame.specs.declared.error.FrameError.TheVariants.{AfterEnd, BadAddress, Counted, CutBody, CutHeader, Memory, TooLong}

same_front : (xs ys rest rest' : List ℕ) → length xs ≡ length ys → xs ++ rest ≡ ys ++ rest'
    → (xs ≡ ys) × (rest ≡ rest')
same_front [] [] rest rest' l e = (refl, e)
same_front [] (y ∷ ys) rest rest' l e = absurd (omega (arith, l))
same_front (x ∷ xs) [] rest rest' l e = absurd (omega (arith, l))
same_front (x ∷ xs) (y ∷ ys) rest rest' l e =
    let heads : x ≡ y = cc in
    let more = same_front xs ys rest rest' (omega (arith, l)) (cc) in
    (cc, more.1)

same_frame : (f g : FrameView) (rest rest' : List ℕ) → words_of f ++ rest ≡ words_of g ++ rest'
    → (f ≡ g) × (rest ≡ rest')
same_frame f g rest rest' e =
    let completions : f.completion ≡ g.completion = cc in
    let transfers : f.transfer ≡ g.transfer = cc in
    let counts : length f.words ≡ length g.words = cc in
    let bodies : f.words ++ rest ≡ g.words ++ rest' = cc in
    let parts = same_front f.words g.words rest rest' counts bodies in
    (rw (completions, transfers, parts.0) refl, parts.1)

-- the first of some frames, if one that goes on comes first
first_is : (f : FrameView) (rest : List ℕ) (frames : List FrameView)
    → AreFrames (words_of f ++ rest) frames → GoesOn f
    → (others : List FrameView) × (frames ≡ f ∷ others) × AreFrames rest others
unfolding AreFrames
first_is f rest [] are on = absurd are
first_is f rest (g ∷ []) are on =
    let same = same_frame f g rest [] (are.0 ∙ sym (append-nil (words_of g))) in
    let ends : (f.completion == MORE) ≡ (g.completion == MORE) =
    ap (λ h. h.completion == MORE) same.0 in
    absurd (false≢true (sym are.2 ∙ sym ends ∙ on.1))
first_is f rest (g ∷ next ∷ frames) are on =
    let same = same_frame f g rest are.0 are.1 in (
      next ∷ frames,
      ap (λ h. h ∷ next ∷ frames) (sym same.0),
      subst (λ l. AreFrames l (next ∷ frames)) (sym same.1) are.4,
    )

-- and if the last one comes first
last_is : (f : FrameView) (rest : List ℕ) (frames : List FrameView)
    → AreFrames (words_of f ++ rest) frames → (f.completion == MORE) ≡ false
    → (frames ≡ f ∷ []) × (rest ≡ [])
unfolding AreFrames
last_is f rest [] are ends = absurd are
last_is f rest (g ∷ []) are ends =
    let same = same_frame f g rest [] (are.0 ∙ sym (append-nil (words_of g))) in
    (ap (λ h. h ∷ []) (sym same.0), same.1)
last_is f rest (g ∷ next ∷ frames) are ends =
    let same = same_frame f g rest are.0 are.1 in
    let goes_on : (f.completion == MORE) ≡ (g.completion == MORE) =
    ap (λ h. h.completion == MORE) same.0 in
    absurd (false≢true (sym ends ∙ goes_on ∙ are.3))

-- behind frames that go on come the other frames
others_are : (front : List FrameView) (rest : List ℕ) (frames : List FrameView) → All GoesOn front
    → AreFrames (flat_map words_of front ++ rest) frames
    → (others : List FrameView) × (frames ≡ front ++ others) × AreFrames rest others
others_are [] rest frames on are = (frames, refl, are)
others_are (f ∷ front) rest frames on are =
    let whole = append_assoc (words_of f) (flat_map words_of front) rest in
    let first = first_is f (flat_map words_of front ++ rest) frames
    (subst (λ l. AreFrames l frames) whole are) (All-head GoesOn f front on) in
    let more = others_are front rest first.0 (All-tail GoesOn f front on) first.2 in
    (more.0, first.1 ∙ ap (λ l. f ∷ l) more.1, more.2)

-- ---- frames that go on, and others behind them

pub are_behind : (front : List FrameView) (rest : List ℕ) (frames : List FrameView)
    → All GoesOn front → AreFrames rest frames
    → AreFrames (flat_map words_of front ++ rest) (front ++ frames)
unfolding AreFrames
are_behind [] rest frames on are = are
are_behind (f ∷ []) rest [] on are = absurd are
are_behind (f ∷ []) rest (g ∷ frames) on are =
    let first = All-head GoesOn f [] on in
    (rest, append_assoc (words_of f) [] rest, first.0, first.1, are)
are_behind (f ∷ g ∷ front) rest frames on are =
    let first = All-head GoesOn f (g ∷ front) on in (
      flat_map words_of (g ∷ front) ++ rest,
      append_assoc (words_of f) (flat_map words_of (g ∷ front)) rest,
      first.0,
      first.1,
      are_behind (g ∷ front) rest frames (All-tail GoesOn f (g ∷ front) on) are,
    )

-- frames are some that go on, and the last one
pub record Ends (words : List ℕ) (frames : List FrameView) : Type 0 where
  pub front : List FrameView
  pub last : FrameView
  pub are : frames ≡ front ++ last ∷ []
  pub whole : words ≡ flat_map words_of front ++ words_of last
  pub go_on : All GoesOn front
  pub well_formed : WellFormed last
  pub ends : (last.completion == MORE) ≡ false

pub ends_of : (words : List ℕ) (frames : List FrameView) → AreFrames words frames
    → Ends words frames
unfolding AreFrames
ends_of words [] are = absurd are
ends_of words (f ∷ []) are = record {
  front = [];
  last = f;
  are = refl;
  whole = are.0;
  go_on = All-nil GoesOn;
  well_formed = are.1;
  ends = are.2;
}
ends_of words (f ∷ g ∷ frames) are =
    let more = ends_of are.0 (g ∷ frames) are.4 in
    record {
      front = f ∷ more.front;
      last = more.last;
      are = ap (λ l. f ∷ l) more.are;
      whole = are.1 ∙ ap (λ l. words_of f ++ l) more.whole
          ∙ sym (append_assoc (words_of f) (flat_map words_of more.front) (words_of more.last));
      go_on = All-cons GoesOn f more.front (are.2, are.3) more.go_on;
      well_formed = more.well_formed;
      ends = more.ends;
    }

pub only_frames : (words : List ℕ) (frames other : List FrameView) → AreFrames words frames
    → AreFrames words other → other ≡ frames
only_frames words frames other are theirs =
    let e = ends_of words frames are in
    let others = others_are e.front (words_of e.last) other e.go_on
    (subst (λ l. AreFrames l other) e.whole theirs) in
    let one = last_is e.last [] others.0
    (subst (λ l. AreFrames l others.0) (sym (append-nil (words_of e.last))) others.2) e.ends in
    others.1 ∙ ap (λ l. e.front ++ l) one.0 ∙ sym e.are

-- ---- words with a fault are no frames

-- words that begin with a frame have no fault there
frame_right : (f : FrameView) (rest : List ℕ) (at : ℕ) → WellFormed f
    → fault_at at (words_of f ++ rest) ≡ None
frame_right f rest at right =
    let long : nat_lt (length (f.words ++ rest)) (length f.words) ≡ false =
    grind (arith, nat_tests, length-append f.words rest) in
    rw (right, long) refl

some_fault : (o : Option FrameError) (fault : FrameError) → o ≡ Some fault → o ≡ None → ⊥
some_fault o fault e f = absurd (cc)

no_frames : (at : ℕ) (rest : List ℕ) (frames : List FrameView) (fault : FrameError)
    → fault_at at rest ≡ Some fault → AreFrames rest frames → ⊥
unfolding AreFrames
no_frames at rest [] fault wrong are = are
no_frames at rest (f ∷ []) fault wrong are =
    some_fault (fault_at at rest) fault wrong
    (ap (fault_at at) (are.0 ∙ sym (append-nil (words_of f))) ∙ frame_right f [] at are.1)
no_frames at rest (f ∷ g ∷ frames) fault wrong are =
    some_fault (fault_at at rest) fault wrong
    (ap (fault_at at) are.1 ∙ frame_right f are.0 at are.2)

pub frame_fault_none : (words : List ℕ) (fault : FrameError) → IsFrameFault words fault
    → (frames : List FrameView) → AreFrames words frames → ⊥
frame_fault_none words fault is frames are =
    let others =
    others_are is.frames is.rest frames is.go_on (subst (λ l. AreFrames l frames) is.whole are) in
    no_frames (length (flat_map words_of is.frames)) is.rest others.0 fault is.wrong others.2

after_end_none : (words : List ℕ) (fault : FrameError) → IsAfterEnd words fault
    → (frames : List FrameView) → AreFrames words frames → ⊥
after_end_none words fault is frames are =
    let others = others_are is.frames (words_of is.last ++ is.word ∷ is.rest) frames is.go_on
    (subst (λ l. AreFrames l frames) is.whole are) in
    let one = last_is is.last (is.word ∷ is.rest) others.0 others.2 is.ends in
    absurd (omega (arith, ap length one.1))

either_none : (words : List ℕ) (fault : FrameError) → IsFrameFault words fault
    ⊎ IsAfterEnd words fault → (frames : List FrameView) → AreFrames words frames → ⊥
either_none words fault (inl is) = frame_fault_none words fault is
either_none words fault (inr is) = after_end_none words fault is

pub first_fault_none : (words : List ℕ) (fault : FrameError) → IsFirstFault words fault
    → HasNoFrames words fault
first_fault_none words Memory is = tt
first_fault_none words TooLong is = either_none words TooLong is
first_fault_none words Counted is = either_none words Counted is
first_fault_none words (CutHeader n) is = either_none words (CutHeader n) is
first_fault_none words (BadAddress n) is = either_none words (BadAddress n) is
first_fault_none words (CutBody n) is = either_none words (CutBody n) is
first_fault_none words (AfterEnd n) is = either_none words (AfterEnd n) is

-- ---- words have one first fault

-- a reader stops before these words: they begin with a fault, or are the last frame and more
data Stops (rest : List ℕ) : Type 0 where
  at_fault : (at : ℕ) (fault : FrameError) → fault_at at rest ≡ Some fault → Stops rest
  at_end : (last : FrameView) (behind : List ℕ) → rest ≡ words_of last ++ behind → WellFormed last
      → (last.completion == MORE) ≡ false → Stops rest

-- it doesn't if they begin with a frame that goes on
goes_past : (f : FrameView) (behind : List ℕ) → GoesOn f → Stops (words_of f ++ behind) → ⊥
goes_past f behind on (at_fault at fault wrong) =
    some_fault (fault_at at (words_of f ++ behind)) fault wrong (frame_right f behind at on.0)
goes_past f behind on (at_end last more e right ends) =
    let same : (f.completion == MORE) ≡ (last.completion == MORE) =
    ap (λ h. h.completion == MORE) (same_frame f last behind more e).0 in
    false≢true (sym ends ∙ sym same ∙ on.1)

-- so it stops in one place
one_stop : (front other : List FrameView) (rest behind : List ℕ) → All GoesOn front
    → All GoesOn other → Stops rest → Stops behind
    → flat_map words_of front ++ rest ≡ flat_map words_of other ++ behind
    → (front ≡ other) × (rest ≡ behind)
one_stop [] [] rest behind on on' stops stops' e = (refl, e)
one_stop [] (g ∷ other) rest behind on on' stops stops' e =
    absurd (goes_past g (flat_map words_of other ++ behind) (All-head GoesOn g other on')
    (subst Stops (e ∙ append_assoc (words_of g) (flat_map words_of other) behind) stops))
one_stop (f ∷ front) [] rest behind on on' stops stops' e =
    absurd (goes_past f (flat_map words_of front ++ rest) (All-head GoesOn f front on)
    (subst Stops (sym e ∙ append_assoc (words_of f) (flat_map words_of front) rest) stops'))
one_stop (f ∷ front) (g ∷ other) rest behind on on' stops stops' e =
    let same = same_frame f g (flat_map words_of front ++ rest) (flat_map words_of other ++ behind)
    (sym (append_assoc (words_of f) (flat_map words_of front) rest) ∙ e
    ∙ append_assoc (words_of g) (flat_map words_of other) behind) in
    let more = one_stop front other rest behind (All-tail GoesOn f front on)
    (All-tail GoesOn g other on') stops stops' same.1 in
    (rw (same.0, more.0) refl, more.1)

one_of_either : (words : List ℕ) (fault other : FrameError) → IsFrameFault words fault
    ⊎ IsAfterEnd words fault → IsFrameFault words other ⊎ IsAfterEnd words other → other ≡ fault
one_of_either words fault other (inl a) (inl b) =
    let same = one_stop b.frames a.frames b.rest a.rest b.go_on a.go_on (at_fault _ other b.wrong)
    (at_fault _ fault a.wrong) (sym b.whole ∙ a.whole) in
    let found : fault_at (length (flat_map words_of b.frames)) b.rest
    ≡ fault_at (length (flat_map words_of a.frames)) a.rest = rw (same.0, same.1) refl in
    let both : Some other ≡ Some fault = sym b.wrong ∙ found ∙ a.wrong in
    cc
one_of_either words fault other (inl a) (inr b) =
    let same = one_stop a.frames b.frames a.rest _ a.go_on b.go_on (at_fault _ fault a.wrong)
    (at_end b.last (b.word ∷ b.rest) refl b.well_formed b.ends) (sym a.whole ∙ b.whole) in
    absurd (some_fault _ fault a.wrong
    (ap (fault_at _) same.1 ∙ frame_right b.last (b.word ∷ b.rest) _ b.well_formed))
one_of_either words fault other (inr a) (inl b) =
    let same = one_stop b.frames a.frames b.rest _ b.go_on a.go_on (at_fault _ other b.wrong)
    (at_end a.last (a.word ∷ a.rest) refl a.well_formed a.ends) (sym b.whole ∙ a.whole) in
    absurd (some_fault _ other b.wrong
    (ap (fault_at _) same.1 ∙ frame_right a.last (a.word ∷ a.rest) _ a.well_formed))
one_of_either words fault other (inr a) (inr b) =
    let same = one_stop b.frames a.frames _ _ b.go_on a.go_on
    (at_end b.last (b.word ∷ b.rest) refl b.well_formed b.ends)
    (at_end a.last (a.word ∷ a.rest) refl a.well_formed a.ends) (sym b.whole ∙ a.whole) in
    let last : b.last ≡ a.last =
    (same_frame b.last a.last (b.word ∷ b.rest) (a.word ∷ a.rest) same.1).0 in
    b.wrong ∙ ap AfterEnd (rw (same.0, last) refl) ∙ sym a.wrong

-- the two ways to have a first fault, unless it is out of memory
either : (words : List ℕ) (fault : FrameError) → (fault ≡ Memory → ⊥) → IsFirstFault words fault
    → IsFrameFault words fault ⊎ IsAfterEnd words fault
either words Memory some is = absurd (some refl)
either words TooLong some is = is
either words Counted some is = is
either words (CutHeader n) some is = is
either words (BadAddress n) some is = is
either words (CutBody n) some is = is
either words (AfterEnd n) some is = is

pub one_fault : (words : List ℕ) (fault other : FrameError) → (fault ≡ Memory → ⊥)
    → (other ≡ Memory → ⊥) → IsFirstFault words fault → IsFirstFault words other → other ≡ fault
one_fault words fault other some some' is is' =
    one_of_either words fault other (either words fault some is) (either words other some' is')
