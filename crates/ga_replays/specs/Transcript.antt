-- The jobs `check` and `record`: what they write.
use Rattle.std.specs.Prelude.{◌≡◌, ◌≢◌, ◌<◌, ◌≤◌, ◌⊎◌, ℕ, List, length, Option, None, Some, Result, Ok, Err}
use Rattle.ga_transcript.specs.Check.{IsPassed}
use Rattle.ga_transcript.specs.Record.{IsRecorded}
use Rattle.ga_input.specs.declared.fault.ServeError.{ServeError}
use Rattle.ga_input.specs.declared.fault.ServeError.TheVariants.{Output}
use Rattle.ga_input.specs.declared.fault.OutputFault.TheVariants.{TooLong}
use Rattle.ga_replays.specs.Replay.{IsSame}
use Rattle.ga_input.specs.Text.{IsInText}
use Rattle.ga_input.specs.TranscriptFault.{shown_transcript_fault}

-- what `check` may write for an input: how many commands have the reply that is behind them, if all
-- have and all expectations are met; or the first fault of the input, with what is shown of it
abbrev pub IsCheckOutput : List ℕ → Result (List ℕ) ServeError → Type 0
IsCheckOutput input answer =
    IsInText shown_transcript_fault (λ text. IsSame (IsPassed text)) input answer

-- what `record` may write for an input, or its first fault
abbrev pub IsRecordOutput : List ℕ → Result (List ℕ) ServeError → Type 0
IsRecordOutput input answer = IsInText shown_transcript_fault IsRecorded input answer

-- what replaces an input: nothing, if it is its recording; else its recording, unless that has more
-- bytes than an input may have; or its first fault
abbrev pub IsReplacement : List ℕ → Result (Option (List ℕ)) ServeError → Type 0
IsReplacement input (Ok None) = IsRecordOutput input (Ok input)
IsReplacement input (Ok (Some text)) =
    IsRecordOutput input (Ok text) × (text ≢ input) × (length text ≤ 1048576)
IsReplacement input (Err fault) =
    IsRecordOutput input (Err fault)
    ⊎ ((text : List ℕ) × IsRecordOutput input (Ok text) × (fault ≡ Output TooLong)
    × (1048576 < length text))
