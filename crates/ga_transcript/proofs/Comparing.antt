-- A reply is compared with the expected lines, one line at a time, up to the next command.
use Rattle.std.proofs.Common.{◌≡◌, ◌∙◌, ℕ, suc, ◌+◌, true, List, [], ◌∷◌, Option, None, Some, ap, ap₂, arith, refl, sym}
use Rattle.ga_transcript.specs.Following.{Lines, Step, checked, early_reply, same_lines, wanted}
use Rattle.ga_transcript.specs.Reply.{reply_lines}
use Rattle.ga_transcript.specs.Line.{Kind, Command, Note, Reply, by_kind, kind_of}
use Rattle.ga_transcript.specs.inner.Next.{Next, checked_behind, checked_next, next_command}

-- what is checked of lines is what is checked from their next command on
checked_from_by : {S : Type 0} (step : Step S) (number count : ℕ) (state : S) (line : List ℕ)
    (lines : Lines) (kind : Kind) → kind_of line ≡ kind → checked step (suc number) count state
    lines ≡ checked_next step count state (next_command (suc number) lines) → checked step number
    count state (line ∷ lines) ≡ checked_next step count state (next_command number (line ∷ lines))
checked_from_by step number count state line lines (Command command) is more = rw (is) refl
checked_from_by step number count state line lines Note is more = rw (is) more
checked_from_by step number count state line lines Reply is more = rw (is) more

pub checked_from_next : {S : Type 0} (step : Step S) (number count : ℕ) (state : S) (lines : Lines)
    → checked step number count state lines
    ≡ checked_next step count state (next_command number lines)
checked_from_next step number count state [] = refl
checked_from_next step number count state (line ∷ lines) =
    checked_from_by step number count state line lines (kind_of line) refl
    (checked_from_next step (suc number) count state lines)

-- if a reply is the expected one, the check of the lines behind its command is the check from the
-- next one on
pub checked_on : {S : Type 0} (step : Step S) (number count : ℕ) (state : S) (lines came : Lines)
    (found : Option Next) → same_lines (wanted lines) came ≡ true
    → found ≡ next_command (number + 1) lines
    → checked_behind step number count state lines came ≡ checked_next step count state found
checked_on step number count state lines came found same is =
    let more : next_command (number + 1) lines ≡ next_command (suc number) lines =
    ap (λ n. next_command n lines) (omega arith) in
    let whole : checked_behind step number count state lines came
    ≡ checked step (suc number) count state lines = rw (same) refl in
    whole ∙ checked_from_next step (suc number) count state lines
    ∙ ap (checked_next step count state) (sym (is ∙ more))

-- nothing is expected before the first command, if no reply is there
none_wanted_by : (number : ℕ) (line : List ℕ) (lines : Lines) (kind : Kind) → kind_of line ≡ kind
    → (early_reply (suc number) lines ≡ None → wanted lines ≡ [])
    → early_reply number (line ∷ lines) ≡ None → wanted (line ∷ lines) ≡ []
none_wanted_by number line lines (Command command) is more none = rw (is) refl
none_wanted_by number line lines Note is more none =
    ap (λ k. by_kind k (λ command. []) (wanted lines) (line ∷ wanted lines)) is ∙ more
    (sym (ap (λ k. by_kind k (λ command. None) (early_reply (suc number) lines) (Some number)) is)
    ∙ none)
none_wanted_by number line lines Reply is more none =
    absurd (cc (sym none
    ∙ ap (λ k. by_kind k (λ command. None) (early_reply (suc number) lines) (Some number)) is))

pub none_wanted_early : (number : ℕ) (lines : Lines) → early_reply number lines ≡ None
    → wanted lines ≡ []
none_wanted_early number [] none = refl
none_wanted_early number (line ∷ lines) none =
    none_wanted_by number line lines (kind_of line) refl (none_wanted_early (suc number) lines) none

empty_reply : reply_lines [] ≡ []
empty_reply = refl

-- the check behind no reply, if no command was done yet
pub checked_first : {S : Type 0} (step : Step S) (number : ℕ) (state : S) (lines : Lines)
    (came : List ℕ) → early_reply (number + 1) lines ≡ None → came ≡ [] → checked_behind step number
    0 state lines (reply_lines came) ≡ checked step (number + 1) 0 state lines
checked_first step number state lines came none empty =
    let same : same_lines (wanted lines) (reply_lines came) ≡ true = ap₂ same_lines
    (none_wanted_early (number + 1) lines none) (ap reply_lines empty ∙ empty_reply) in
    let whole : checked_behind step number 0 state lines (reply_lines came)
    ≡ checked step (suc number) 0 state lines = rw (same) refl in
    whole ∙ ap (λ n. checked step n 0 state lines) (omega arith)
