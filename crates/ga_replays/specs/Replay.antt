-- The job `replay`: what it writes.
use Rattle.std.specs.Prelude.{◌≡◌, ℕ, List, [], ◌∷◌, ◌++◌, codes, Result, Ok, Err}
use Rattle.std.specs.Fmt.{decimal}
use Rattle.ga_debug.specs.Replaying.{IsReplayed}
use Rattle.ga_input.specs.declared.fault.ServeError.{ServeError}
use Rattle.ga_input.specs.Fault.{fault_of_replay}
use Rattle.ga_input.specs.Text.{IsInText}

-- the line `same` with a count that is right by `Is`, or a fault that is
abbrev pub IsSame : {E : Type 0} → (Result ℕ E → Type 0) → Result (List ℕ) E → Type 0
IsSame Is (Ok output) =
    (count : ℕ) × Is (Ok count) × (output ≡ codes "same " ++ decimal count ++ 10 ∷ [])
IsSame Is (Err error) = Is (Err error)

-- what `replay` may write for an input: how many stated outcomes were compared, or its first fault
abbrev pub IsReplayOutput : List ℕ → Result (List ℕ) ServeError → Type 0
IsReplayOutput input answer =
    IsInText (λ text. fault_of_replay) (λ text. IsSame (IsReplayed text)) input answer
