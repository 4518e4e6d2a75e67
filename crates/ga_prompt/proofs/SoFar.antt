-- What was written so far, and what is shown from there on.
use Rattle.std.proofs.Common.{◌≡◌, ◌∙◌, inl, inr, ℕ, Bool, true, false, List, [], ◌∷◌, ◌++◌, Option, Some, None, Ok, Err, ap, append-nil, append_assoc, refl, subst, sym}
use Rattle.std.specs.Prelude.{IfSome, MatchBool, codes, not}
use Rattle.std.proofs.KnownBytes.{Appends-trans}
use Rattle.std.proofs.lemmas.Bool.{true≢false}
use Rattle.ga_input.specs.declared.fault.ServeError.{ServeError}
use Rattle.ga_transcript.specs.Live.{LiveView}
use Rattle.ga_prompt.specs.declared.conversation.Conversation.{Conversation}
use Rattle.ga_prompt.specs.Conversation.{DoesLine, IsTurn, last_of, live_of, prompts_of}
use Rattle.ga_prompt.specs.Request.{Request, request_in}
use Rattle.ga_prompt.specs.Saving.{Files}
use Rattle.ga_prompt.specs.Talk.{HasTalked, IsReply, Talks, WritesSo, end_text, is_quit, prompt_text}
use Rattle.ga_prompt.specs.Typed.{Lines, asked_in}
use Rattle.ga_prompt.specs.inner.Talk.{IsSoFar}
use Rattle.ga_prompt.proofs.Written.{wrote_part, wrote_then}

abbrev Bytes : Type 0
Bytes = Option (List ℕ)

quits_at : (prompts : Bool) (live : LiveView) (lines : Lines) (rest : List ℕ) (request : Request)
    → is_quit request ≡ true → rest ≡ []
    → MatchBool (is_quit request) (rest ≡ []) (Talks prompts live lines rest)
quits_at prompts live lines rest request e none =
    subst (λ b. MatchBool b (rest ≡ []) (Talks prompts live lines rest)) (sym e) none

goes_on : (prompts : Bool) (live : LiveView) (lines : Lines) (rest : List ℕ) (request : Request)
    → is_quit request ≡ false → Talks prompts live lines rest
    → MatchBool (is_quit request) (rest ≡ []) (Talks prompts live lines rest)
goes_on prompts live lines rest request e shows =
    subst (λ b. MatchBool b (rest ≡ []) (Talks prompts live lines rest)) (sym e) shows

shown_by : (prompts : Bool) (live : LiveView) (line : List ℕ) (lines : Lines) (quits : Bool)
    → is_quit (request_in line) ≡ quits → (shown : List ℕ) × Talks prompts live lines shown
    → (shown : List ℕ) × Talks prompts live (line ∷ lines) shown
shown_by prompts live line lines true e behind = (
  prompt_text prompts ++ (codes "refused Memory\n" ++ []),
  (
    live,
    codes "refused Memory\n",
    [],
    inr (refl, refl),
    quits_at prompts live lines [] (request_in line) e refl,
    refl,
  ),
)
shown_by prompts live line lines false e (rest, shows) = (
  prompt_text prompts ++ (codes "refused Memory\n" ++ rest),
  (
    live,
    codes "refused Memory\n",
    rest,
    inr (refl, refl),
    goes_on prompts live lines rest (request_in line) e shows,
    refl,
  ),
)

-- what is shown for lines, if memory is never there
some_shown : (prompts : Bool) (live : LiveView) (lines : Lines)
    → (shown : List ℕ) × Talks prompts live lines shown
some_shown prompts live [] = (prompt_text prompts ++ end_text prompts, refl)
some_shown prompts live (line ∷ lines) =
    shown_by prompts live line lines (is_quit (request_in line)) refl
    (some_shown prompts live lines)

-- a prompt comes first
prompt_first : (prompts : Bool) (live : LiveView) (lines : Lines) (shown : List ℕ)
    → Talks prompts live lines shown → (rest : List ℕ) × (shown ≡ prompt_text prompts ++ rest)
prompt_first prompts live [] shown is = (end_text prompts, is)
prompt_first prompts live (line ∷ lines) shown (next, text, rest, reply, more, is) =
    (text ++ rest, is)

not_false : (quits : Bool) → false ≡ not quits → quits ≡ true
not_false true e = refl
not_false false e = absurd (true≢false (sym e))

not_true : (quits : Bool) → true ≡ not quits → quits ≡ false
not_true true e = absurd (true≢false e)
not_true false e = refl

-- a line that was answered, and what is shown behind it
answered_more : (now next : Conversation) (asked text shown tail : List ℕ) (lines : Lines)
    → IsReply (live_of now) (request_in asked) (live_of next) text
    → shown ≡ prompt_text (prompts_of now) ++ text → is_quit (request_in asked) ≡ false
    → Talks (prompts_of now) (live_of next) lines tail
    → Talks (prompts_of now) (live_of now) (asked ∷ lines) (shown ++ tail)
answered_more now next asked text shown tail lines reply is stays talks = (
  live_of next,
  text,
  tail,
  reply,
  goes_on (prompts_of now) (live_of next) lines tail (request_in asked) stays talks,
  ap (λ t. t ++ tail) is ∙ append_assoc (prompt_text (prompts_of now)) text tail,
)

answered_last : (now next : Conversation) (asked text shown : List ℕ) (lines : Lines)
    → IsReply (live_of now) (request_in asked) (live_of next) text
    → shown ≡ prompt_text (prompts_of now) ++ text → is_quit (request_in asked) ≡ true
    → Talks (prompts_of now) (live_of now) (asked ∷ lines) shown
answered_last now next asked text shown lines reply is quits = (
  live_of next,
  text,
  [],
  reply,
  quits_at (prompts_of now) (live_of next) lines [] (request_in asked) quits refl,
  is ∙ ap (λ t. prompt_text (prompts_of now) ++ t) (sym (append-nil text)),
)

-- a line behind which others come
turn_goes : (now next : Conversation) (rest : List ℕ) (after : Bytes) (saved saves : Option Files)
    (shown : List ℕ) → IsTurn now next (Some rest) after saved saves shown true
    → (behind : List ℕ) × (after ≡ Some behind)
    × ((tail : List ℕ) → Talks (prompts_of now) (live_of next) (asked_in (last_of next) behind) tail
    → Talks (prompts_of now) (live_of now) (asked_in (last_of now) rest) (shown ++ tail))
turn_goes now next rest after saved saves shown
    (inl (asked, text, (behind, left, lines), last, reply, kept, is, e)) = (
      behind,
      left,
      λ tail talks. subst (λ ls. Talks (prompts_of now) (live_of now) ls (shown ++ tail))
          (sym lines)
          (answered_more now next asked text shown tail (asked_in asked behind) reply is
          (not_true _ e)
          (subst (λ l. Talks (prompts_of now) (live_of next) (asked_in l behind) tail) last talks)),
    )
turn_goes now next rest after saved saves shown (inr (none, live, kept, is, e)) =
    absurd (true≢false e)

-- the last one, or the end
turn_stops : (now next : Conversation) (rest : List ℕ) (after : Bytes) (saved saves : Option Files)
    (shown : List ℕ) → IsTurn now next (Some rest) after saved saves shown false
    → Talks (prompts_of now) (live_of now) (asked_in (last_of now) rest) shown
turn_stops now next rest after saved saves shown
    (inl (asked, text, (behind, left, lines), last, reply, kept, is, e)) =
    subst (λ ls. Talks (prompts_of now) (live_of now) ls shown) (sym lines)
    (answered_last now next asked text shown (asked_in asked behind) reply is (not_false _ e))
turn_stops now next rest after saved saves shown (inr (none, live, kept, is, e)) =
    subst (λ ls. Talks (prompts_of now) (live_of now) ls shown) (sym none) is

turn_any : (now next : Conversation) (rest : List ℕ) (after : Bytes) (saved saves : Option Files)
    (shown : List ℕ) (going : Bool) → IsTurn now next (Some rest) after saved saves shown going
    → (tail : List ℕ)
    × Talks (prompts_of now) (live_of now) (asked_in (last_of now) rest) (shown ++ tail)
turn_any now next rest after saved saves shown true turn =
    let (behind, left, begins) = turn_goes now next rest after saved saves shown turn in
    let (tail, talks) =
    some_shown (prompts_of now) (live_of next) (asked_in (last_of next) behind) in
    (tail, begins tail talks)
turn_any now next rest after saved saves shown false turn = (
  [],
  subst (Talks (prompts_of now) (live_of now) (asked_in (last_of now) rest))
      (sym (append-nil shown)) (turn_stops now next rest after saved saves shown turn),
)

-- it goes on
pub goes_further : (first now next : Conversation) (input old left after mid new : Bytes)
    (saved saves : Option Files) → prompts_of now ≡ prompts_of first
    → IsSoFar first input old now left mid
    → DoesLine now next left after mid new saved saves (Ok true)
    → IsSoFar first input old next after new
goes_further first now next None old left after mid new saved saves same far does = tt
goes_further first now next (Some all) old left after mid new saved saves same
    (front, rest, is, wrote, part) (shown, turn, more) =
    let (behind, left', begins) = turn_goes now next rest after saved saves shown
    (subst (λ l. IsTurn now next l after saved saves shown true) is turn) in (
      front ++ shown,
      behind,
      left',
      Appends-trans old mid new front shown wrote more,
      λ tail talks. subst
          (Talks (prompts_of first) (live_of first) (asked_in (last_of first) all))
          (sym (append_assoc front shown tail))
          (part (shown ++ tail)
          (subst (λ p. Talks p (live_of now) (asked_in (last_of now) rest) (shown ++ tail)) same
          (begins tail
          (subst (λ p. Talks p (live_of next) (asked_in (last_of next) behind) tail) (sym same)
          talks)))),
    )

-- it ends
pub ended_so : (first now next : Conversation) (input old left after mid new : Bytes)
    (saved saves : Option Files) → prompts_of now ≡ prompts_of first
    → IsSoFar first input old now left mid
    → DoesLine now next left after mid new saved saves (Ok false)
    → IfSome input (λ all. HasTalked (prompts_of first) (live_of first) (last_of first) all old new
    (Ok tt))
ended_so first now next None old left after mid new saved saves same far does = tt
ended_so first now next (Some all) old left after mid new saved saves same
    (front, rest, is, wrote, part) (shown, turn, more) =
    let talks = turn_stops now next rest after saved saves shown
    (subst (λ l. IsTurn now next l after saved saves shown false) is turn) in (
      front ++ shown,
      part shown
          (subst (λ p. Talks p (live_of now) (asked_in (last_of now) rest) shown) same talks),
      Appends-trans old mid new front shown wrote more,
    )

-- it breaks off
pub broken_off : (first now next : Conversation) (input old left after mid new : Bytes)
    (saved saves : Option Files) (fault : ServeError) → prompts_of now ≡ prompts_of first
    → IsSoFar first input old now left mid
    → DoesLine now next left after mid new saved saves (Err fault)
    → IfSome input (λ all. HasTalked (prompts_of first) (live_of first) (last_of first) all old new
    (Err fault))
broken_off first now next None old left after mid new saved saves fault same far does = tt
broken_off first now next (Some all) old left after mid new saved saves fault same
    (front, rest, is, wrote, part) (inl (live, kept, fails)) =
    let (shown, talks) =
    some_shown (prompts_of first) (live_of now) (asked_in (last_of now) rest) in
    let (tail, begins) =
    prompt_first (prompts_of first) (live_of now) (asked_in (last_of now) rest) shown talks in (
      front ++ shown,
      part shown talks,
      wrote_then old mid new front shown (Err fault) wrote
          (subst (λ t. WritesSo mid new t (Err fault)) (sym begins)
          (wrote_part mid new (prompt_text (prompts_of first)) tail fault
          (subst (λ p. WritesSo mid new (prompt_text p) (Err fault)) same fails))),
    )
broken_off first now next (Some all) old left after mid new saved saves fault same
    (front, rest, is, wrote, part) (inr (shown, going, turn, fails)) =
    let (tail, talks) = turn_any now next rest after saved saves shown going
    (subst (λ l. IsTurn now next l after saved saves shown going) is turn) in (
      front ++ (shown ++ tail),
      part (shown ++ tail)
          (subst (λ p. Talks p (live_of now) (asked_in (last_of now) rest) (shown ++ tail)) same
          talks),
      wrote_then old mid new front (shown ++ tail) (Err fault) wrote
          (wrote_part mid new shown tail fault fails),
    )
