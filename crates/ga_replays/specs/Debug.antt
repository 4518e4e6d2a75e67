-- The job `debug`: what it writes.
use Rattle.std.specs.Prelude.{◌≡◌, ℕ, List, [], ◌∷◌, ◌++◌, None, Result, Ok, Err}
use Rattle.ga_chip.specs.Chip.{Chip}
use Rattle.ga_debug.specs.declared.replay_error.ReplayError.{ReplayError}
use Rattle.ga_debug.specs.Beginning.{IsLoaded, Start}
use Rattle.ga_debug.specs.Session.{replied, text_or_refusal}
use Rattle.ga_input.specs.declared.fault.ServeError.{ServeError}
use Rattle.ga_input.specs.Fault.{fault_of_replay}
use Rattle.ga_input.specs.Text.{IsInText}

-- what a chip replies to lines, of which the empty ones are no commands
abbrev pub replies_to : Chip → List (List ℕ) → List ℕ
replies_to chip [] = []
replies_to chip ([] ∷ lines) = replies_to chip lines
replies_to chip ((c ∷ line) ∷ lines) =
    let next = replied None (c ∷ line) chip in
    (text_or_refusal None (c ∷ line) next.0 ++ 10 ∷ []) ++ replies_to next.1 lines

-- the replies to the commands of a text, which follow its head, or the first fault of the head
abbrev pub IsReplies : List ℕ → Result (List ℕ) ReplayError → Type 0
IsReplies text (Ok replies) =
    (start : Start) × IsLoaded text (Ok start) × (replies ≡ replies_to start.chip start.commands)
IsReplies text (Err error) = IsLoaded text (Err error)

-- what `debug` may write for an input, or its first fault
abbrev pub IsDebugOutput : List ℕ → Result (List ℕ) ServeError → Type 0
IsDebugOutput input answer = IsInText (λ text. fault_of_replay) IsReplies input answer
