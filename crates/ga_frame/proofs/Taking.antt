-- A reader that takes frame after frame off the front of words is behind those that it has read,
-- and finds the first fault of the words and of all that follow them.
use Rattle.std.proofs.Common.{◌≡◌, ◌∙◌, ◌++◌, ◌+◌, ◌-◌, ◌<◌, ◌⊎◌, ℕ, Bool, true, false, List, [], ◌∷◌, inl, inr, All, length, drop, Some, None, refl, sym, ap, subst, append-nil, append_assoc, arith, length-append}
use Rattle.std.specs.Prelude.{◌==◌, ◌&&◌, nat_lt, if◌then◌else◌, not}
use Rattle.std.proofs.lemmas.Bool.{false≢true}
use Rattle.std.proofs.lemmas.Bool.Decides.{nat_tests}
use Rattle.std.specs.List.{flat_map}
use Rattle.std.proofs.Math.Seq.{drop-append_seam}
use Rattle.std.proofs.lemmas.List.Concat.{flat_map-append}
use Rattle.std.proofs.lemmas.List.Elements.{All-append, All-push}
use Rattle.ga_frame.specs.Frame.{AreFrames, FrameView, GoesOn, IsAfterEnd, IsFirstFault, IsFrameFault, MORE, WellFormed, fault_at, has_addresses, words_of}
use Rattle.ga_frame.specs.Feed.{FeedView, HasRead, cut_at, is_cut}
use Rattle.ga_frame.specs.inner.Taking.{BeginsWith, HasFaultBehind}
use Rattle.ga_frame.specs.declared.error.FrameError.{FrameError}
use Rattle.ga_frame.specs.declared.error.FrameError.TheVariants.{AfterEnd, BadAddress, Counted, CutBody, CutHeader, Memory}
use Rattle.ga_frame.proofs.OneReading.{are_behind, ends_of, frame_fault_none}

-- some frames that go on were read, and these words are left
pub record ReadSoFar (words rest : List ℕ) (frames : List FrameView) : Type 0 where
  pub whole : words ≡ flat_map words_of frames ++ rest
  pub go_on : All GoesOn frames

whole_more : (words rest behind : List ℕ) (frames : List FrameView) (frame : FrameView)
    → words ≡ flat_map words_of frames ++ rest → rest ≡ words_of frame ++ behind
    → words ≡ flat_map words_of (frames ++ frame ∷ []) ++ behind
whole_more words rest behind frames frame e f =
    let sent : flat_map words_of (frames ++ frame ∷ []) ≡ flat_map words_of frames
    ++ words_of frame = flat_map-append words_of frames (frame ∷ [])
    ∙ ap (λ l. flat_map words_of frames ++ l) (append-nil (words_of frame)) in
    e ∙ ap (λ l. flat_map words_of frames ++ l) f
    ∙ sym (append_assoc (flat_map words_of frames) (words_of frame) behind)
    ∙ ap (λ l. l ++ behind) (sym sent)

pub read_more : (words rest behind : List ℕ) (frames : List FrameView) (frame : FrameView)
    → ReadSoFar words rest frames → BeginsWith rest frame behind → (frame.completion == MORE) ≡ true
    → ReadSoFar words behind (frames ++ frame ∷ [])
read_more words rest behind frames frame r (e, right) more = record {
  whole = whole_more words rest behind frames frame r.whole e;
  go_on = All-push GoesOn frames frame r.go_on (right, more);
}

-- ---- where the reader stands

abbrev pub stands : Bool → List ℕ → ℕ → FeedView
stands ended words count = record { at = count; begun = drop count words; ended = ended }

no_words : (words : List ℕ) → length words ≡ 0 → words ≡ []
no_words [] e = refl
no_words (word ∷ words) e = absurd (omega (arith, e))

-- the last frame was read, and no word is left behind it
pub has_ended : (words rest behind : List ℕ) (frames : List FrameView) (last : FrameView)
    → ReadSoFar words rest frames → BeginsWith rest last behind → length behind ≡ 0
    → (last.completion == MORE) ≡ false
    → HasRead words (frames ++ last ∷ []) (stands true words (length words))
unfolding AreFrames
has_ended words rest behind frames last r (e, right) none ends =
    let sent : words ≡ flat_map words_of frames ++ words_of last =
    r.whole ∙ ap (λ l. flat_map words_of frames ++ l) (e
    ∙ ap (λ l. words_of last ++ l) (no_words behind none) ∙ append-nil (words_of last)) in
    let all : flat_map words_of (frames ++ last ∷ []) ≡ words = flat_map-append words_of frames
    (last ∷ []) ∙ ap (λ l. flat_map words_of frames ++ l) (append-nil (words_of last)) ∙ sym sent in
    let left : drop (length words) words ≡ [] =
    ap (drop (length words)) (sym (append-nil words)) ∙ drop-append_seam words [] in
    record {
      whole = sym all ∙ sym (append-nil (flat_map words_of (frames ++ last ∷ [])))
          ∙ ap (λ l. flat_map words_of (frames ++ last ∷ []) ++ l) (sym left);
      place = ap length (sym all);
      goes_on = λ going. absurd (false≢true (sym going));
      ends = λ ended. (
        subst (λ l. AreFrames l (frames ++ last ∷ [])) (sym sent)
            (are_behind frames (words_of last) (last ∷ []) r.go_on (refl, right, ends)),
        left,
      );
    }

-- the reader goes on in a stream of which it has read a part
pub read_on : (words piece rest : List ℕ) (frames more : List FrameView) (feed : FeedView)
    (count : ℕ) (ended : Bool) → HasRead words frames feed → feed.ended ≡ false
    → HasRead (feed.begun ++ piece) more (record { at = count; begun = rest; ended = ended })
    → HasRead (words ++ piece) (frames ++ more)
    (record { at = feed.at + count; begun = rest; ended = ended })
read_on words piece rest frames more feed count ended r going next =
    let all : words ++ piece ≡ flat_map words_of frames ++ (feed.begun ++ piece) =
    ap (λ l. l ++ piece) r.whole ∙ append_assoc (flat_map words_of frames) feed.begun piece in
    let both = flat_map-append words_of frames more in
    let before = (r.goes_on going).0 in
    record {
      whole = all ∙ ap (λ l. flat_map words_of frames ++ l) next.whole
          ∙ sym (append_assoc (flat_map words_of frames) (flat_map words_of more) rest)
          ∙ ap (λ l. l ++ rest) (sym both);
      place =
          ap (λ n. n + count) r.place ∙ ap (λ n. length (flat_map words_of frames) + n) next.place
          ∙ sym (length-append (flat_map words_of frames) (flat_map words_of more))
          ∙ ap length (sym both);
      goes_on = λ still.
          (All-append GoesOn frames more before (next.goes_on still).0, (next.goes_on still).1);
      ends = λ done. (
        subst (λ l. AreFrames l (frames ++ more)) (sym all)
            (are_behind frames (feed.begun ++ piece) more before (next.ends done).0),
        (next.ends done).1,
      );
    }

-- ---- faults

-- the fault of an address is in the first three words of a frame, so it stays whatever follows
bad_address_stays : (at : ℕ) (rest more : List ℕ) → fault_at at rest ≡ Some (BadAddress at)
    → fault_at at (rest ++ more) ≡ Some (BadAddress at)
bad_address_stays at [] more e = absurd (cc)
bad_address_stays at (completion ∷ []) more e = absurd (cc)
bad_address_stays at (completion ∷ transfer ∷ []) more e = absurd (cc)
bad_address_stays at (completion ∷ transfer ∷ count ∷ body) more e =
    by (has_addresses completion transfer) (nat_lt (length body) count) e
  where
    by : (right short : Bool) → (if not right then Some (BadAddress at) else if short
        then Some (CutBody at) else None) ≡ Some (BadAddress at)
        → (if not right then Some (BadAddress at) else if nat_lt (length (body ++ more)) count
        then Some (CutBody at) else None) ≡ Some (BadAddress at)
    by false short f = refl
    by true true f = absurd (cc)
    by true false f = absurd (cc)

-- words behind others that were read
behind_all : (front words rest more : List ℕ) (mine : List ℕ) → words ≡ mine ++ rest
    → front ++ (words ++ more) ≡ (front ++ mine) ++ (rest ++ more)
behind_all front words rest more mine e =
    ap (λ l. front ++ (l ++ more)) e ∙ ap (λ l. front ++ l) (append_assoc mine rest more)
    ∙ sym (append_assoc front mine (rest ++ more))

-- frames of which the first were read before, and the others of these words
both_read : (front frames : List FrameView) (words rest more : List ℕ) → ReadSoFar words rest frames
    → flat_map words_of front ++ (words ++ more) ≡ flat_map words_of (front ++ frames)
    ++ (rest ++ more)
both_read front frames words rest more r =
    behind_all (flat_map words_of front) words rest more (flat_map words_of frames) r.whole
    ∙ ap (λ l. l ++ (rest ++ more)) (sym (flat_map-append words_of front frames))

place_of : (front frames : List FrameView) (words rest : List ℕ) (at : ℕ)
    → length (flat_map words_of front) ≡ at → ReadSoFar words rest frames
    → at + (length words - length rest) ≡ length (flat_map words_of (front ++ frames))
place_of front frames words rest at before r =
    omega (
      arith,
      before,
      ap length r.whole,
      length-append (flat_map words_of frames) rest,
      ap length (flat_map-append words_of front frames),
      length-append (flat_map words_of front) (flat_map words_of frames),
    )

-- the frame at the reader's place has a bad address
bad_address : (front frames : List FrameView) (words rest more : List ℕ) (at : ℕ) → All GoesOn front
    → length (flat_map words_of front) ≡ at → ReadSoFar words rest frames
    → fault_at (at + (length words - length rest)) rest
    ≡ Some (BadAddress (at + (length words - length rest))) → IsFrameFault
    (flat_map words_of front ++ (words ++ more)) (BadAddress (at + (length words - length rest)))
bad_address front frames words rest more at on before r wrong = record {
  frames = front ++ frames;
  rest = rest ++ more;
  whole = both_read front frames words rest more r;
  go_on = All-append GoesOn front frames on r.go_on;
  wrong = ap (λ n. fault_at n (rest ++ more)) (sym (place_of front frames words rest at before r))
      ∙ bad_address_stays _ rest more wrong;
}

-- the next frame can't be read: memory was refused, or its address is bad
pub stops_at : (words rest : List ℕ) (frames : List FrameView) (at : ℕ) (fault : FrameError)
    → ReadSoFar words rest frames
    → (fault ≡ Memory) ⊎ ((fault ≡ BadAddress (at + (length words - length rest)))
    × (fault_at (at + (length words - length rest)) rest ≡ Some fault))
    → HasFaultBehind at words fault
stops_at words rest frames at fault r (inl refused) =
    subst (HasFaultBehind at words) (sym refused) (record { first = λ front more on before. tt })
stops_at words rest frames at fault r (inr (bad, wrong)) =
    subst (HasFaultBehind at words) (sym bad) (record {
      first = λ front more on before.
          inl (bad_address front frames words rest more at on before r (wrong ∙ ap Some bad));
    })

-- a word comes behind the last frame
after_end : (front frames : List FrameView) (words rest behind more : List ℕ) (at : ℕ)
    (last : FrameView) → All GoesOn front → length (flat_map words_of front) ≡ at
    → ReadSoFar words rest frames → rest ≡ words_of last ++ behind → WellFormed last
    → (last.completion == MORE) ≡ false → 0 < length behind → IsAfterEnd
    (flat_map words_of front ++ (words ++ more)) (AfterEnd (at + (length words - length behind)))
after_end front frames words rest [] more at last on before r e right ends some =
    absurd (omega (arith, some))
after_end front frames words rest (word ∷ behind) more at last on before r e right ends some =
    let place : at + (length words - length (word ∷ behind))
    ≡ length (flat_map words_of (front ++ frames)) + length (words_of last) =
    omega (
      arith,
      sym (place_of front frames words rest at before r),
      ap length r.whole,
      length-append (flat_map words_of frames) rest,
      ap length e,
      length-append (words_of last) (word ∷ behind),
    ) in
    record {
      frames = front ++ frames;
      last = last;
      word = word;
      rest = behind ++ more;
      whole = both_read front frames words rest more r
          ∙ ap (λ l. flat_map words_of (front ++ frames) ++ (l ++ more)) e
          ∙ ap (λ l. flat_map words_of (front ++ frames) ++ l)
          (append_assoc (words_of last) (word ∷ behind) more);
      go_on = All-append GoesOn front frames on r.go_on;
      well_formed = right;
      ends = ends;
      wrong = ap AfterEnd place;
    }

pub stops_behind : (words rest behind : List ℕ) (frames : List FrameView) (at : ℕ)
    (last : FrameView) → ReadSoFar words rest frames → BeginsWith rest last behind
    → (last.completion == MORE) ≡ false → 0 < length behind
    → HasFaultBehind at words (AfterEnd (at + (length words - length behind)))
stops_behind words rest behind frames at last r (e, right) ends some = record {
  first = λ front more on before.
      inr (after_end front frames words rest behind more at last on before r e right ends some);
}

-- a fault behind the frames that were handed out is the first one of all words
pub fault_on : (words piece more : List ℕ) (frames : List FrameView) (feed : FeedView)
    (fault : FrameError) → HasRead words frames feed → feed.ended ≡ false
    → HasFaultBehind feed.at (feed.begun ++ piece) fault
    → IsFirstFault (words ++ (piece ++ more)) fault
fault_on words piece more frames feed fault r going behind =
    subst (λ l. IsFirstFault l fault) (sym (ap (λ l. l ++ (piece ++ more)) r.whole
    ∙ append_assoc (flat_map words_of frames) feed.begun (piece ++ more)
    ∙ ap (λ l. flat_map words_of frames ++ l) (sym (append_assoc feed.begun piece more))))
    (behind.first frames more (r.goes_on going).0 (sym r.place))

-- a word comes when the last frame was read
pub comes_late : (words piece more : List ℕ) (frames : List FrameView) (feed : FeedView)
    → HasRead words frames feed → feed.ended ≡ true → 0 < length piece
    → IsAfterEnd (words ++ (piece ++ more)) (AfterEnd feed.at)
comes_late words [] more frames feed r done some = absurd (omega (arith, some))
comes_late words (word ∷ piece) more frames feed r done some =
    let e = ends_of words frames (r.ends done).0 in
    let all : words ≡ flat_map words_of frames = r.whole ∙ ap (λ l. flat_map words_of frames ++ l)
    (r.ends done).1 ∙ append-nil (flat_map words_of frames) in
    record {
      frames = e.front;
      last = e.last;
      word = word;
      rest = piece ++ more;
      whole = ap (λ l. l ++ (word ∷ piece ++ more)) e.whole
          ∙ append_assoc (flat_map words_of e.front) (words_of e.last) (word ∷ piece ++ more);
      go_on = e.go_on;
      well_formed = e.well_formed;
      ends = e.ends;
      wrong = ap AfterEnd (r.place ∙ ap length (sym all) ∙ ap length e.whole
          ∙ length-append (flat_map words_of e.front) (words_of e.last));
    }

-- ---- the stream ends

cut_fault : (at : ℕ) (begun : List ℕ) → is_cut begun ≡ true
    → fault_at at begun ≡ Some (cut_at at (length begun))
cut_fault at [] cut = refl
cut_fault at (completion ∷ []) cut = refl
cut_fault at (completion ∷ transfer ∷ []) cut = refl
cut_fault at (completion ∷ transfer ∷ count ∷ body) cut =
    let long : nat_lt (length (completion ∷ transfer ∷ count ∷ body)) 3 ≡ false =
    grind (arith, nat_tests) in
    by (has_addresses completion transfer) (nat_lt (length body) count) cut
    ∙ sym (ap (λ b. Some (if b then CutHeader at else CutBody at)) long)
  where
    by : (right short : Bool) → (right && short) ≡ true → (if not right then Some (BadAddress at)
        else if short then Some (CutBody at) else None) ≡ Some (CutBody at)
    by true true f = refl
    by true false f = absurd (false≢true f)
    by false short f = absurd (false≢true f)

-- a frame that isn't whole is cut
pub cut_short : (words : List ℕ) (frames : List FrameView) (feed : FeedView)
    → HasRead words frames feed → feed.ended ≡ false
    → IsFrameFault words (cut_at feed.at (length feed.begun))
cut_short words frames feed r going = record {
  frames = frames;
  rest = feed.begun;
  whole = r.whole;
  go_on = (r.goes_on going).0;
  wrong = ap (λ n. fault_at n feed.begun) (sym r.place)
      ∙ cut_fault feed.at feed.begun (r.goes_on going).1;
}

pub cut_none : (words : List ℕ) (frames : List FrameView) (feed : FeedView)
    → HasRead words frames feed → feed.ended ≡ false → (other : List FrameView)
    → AreFrames words other → ⊥
cut_none words frames feed r going =
    frame_fault_none words (cut_at feed.at (length feed.begun))
    (cut_short words frames feed r going)

-- the words are one piece
pub first_of_whole : (words : List ℕ) (fault : FrameError) (feed : FeedView) → HasRead [] [] feed
    → (fault ≡ Counted → ⊥) → (fault ≡ Counted)
    ⊎ ((before : List ℕ) (frames : List FrameView) (more : List ℕ) → HasRead before frames feed
    → IsFirstFault (before ++ (words ++ more)) fault) → IsFirstFault words fault
first_of_whole words fault feed r not_counted (inl counted) = absurd (not_counted counted)
first_of_whole words fault feed r not_counted (inr first) =
    subst (λ l. IsFirstFault l fault) (append-nil words) (first [] [] [] r)
