-- Which commands of a replay text hold.
use Rattle.std.specs.Prelude.{◌≡◌, ◌⊎◌, ◌==◌, ℕ, ◌+◌, Bool, true, false, List, [], ◌∷◌, codes, ok_or, option_map, Result, Ok, Err, if◌then◌else◌}
use Rattle.std.specs.Result.{result_map_both}
use Rattle.std.specs.Str.{bytes_eq}
use Rattle.ga_chip.specs.declared.outcome.Outcome as tried
use Rattle.ga_chip.specs.declared.outcome.Outcome.TheVariants as outcome
use Rattle.ga_chip.specs.Chip.{Chip}
use Rattle.ga_debug.specs.declared.commands.Answer.{Answer}
use Rattle.ga_debug.specs.declared.commands.Answer.TheVariants.{Done, Tried, Moved, Reached, Ran}
use Rattle.ga_debug.specs.declared.error.DebugError.{DebugError}
use Rattle.ga_debug.specs.declared.error.DebugError.TheVariants.{BadCommand}
use Rattle.ga_debug.specs.declared.profile.Profile.{Profile}
use Rattle.ga_debug.specs.declared.replay_error.ReplayError.{ReplayError}
use Rattle.ga_debug.specs.declared.replay_error.ReplayError.TheVariants as text
use Rattle.ga_debug.specs.declared.replaying.LineError.{LineError}
use Rattle.ga_debug.specs.declared.replaying.LineError.TheVariants.{Bad, Differs}
use Rattle.ga_debug.specs.declared.replaying.Statement.{Statement}
use Rattle.ga_debug.specs.declared.row.Scope.TheVariants.{Replays}
use Rattle.ga_debug.specs.declared.row.States.{States}
use Rattle.ga_debug.specs.declared.row.States.TheVariants.{Nothing, Outcome, Steps}
use Rattle.ga_debug.specs.declared.commands.Verb.TheVariants.{Act, Show, Tell}
use Rattle.ga_debug.specs.Beginning.{IsBegun}
use Rattle.ga_debug.specs.Command.{Words, command_first, then_with, whole, words_of}
use Rattle.ga_debug.specs.Head.{Head}
use Rattle.ga_debug.specs.Profile.{did_as, profile_in}
use Rattle.ga_debug.specs.Commands.{action_row}
use Rattle.ga_debug.specs.Word.{decimal_of, outcome_of}

-- the fault of a line, as a fault of the text
abbrev pub fault_of_line : LineError → ReplayError
fault_of_line (Bad line fault) = text.Bad line fault
fault_of_line (Differs line) = text.Differs line

-- the word behind `=`, with nothing behind it
abbrev pub word_behind_sign : Words → Result (List ℕ) DebugError
word_behind_sign (sign ∷ word ∷ []) = if bytes_eq sign (codes "=") then Ok word else Err BadCommand
word_behind_sign words = Err BadCommand

-- What is stated behind a command: the outcome of a try, the steps of turns in one to nine decimal
-- digits, or nothing.
unfoldable pub stated_answer : States → Words → Result Answer DebugError
stated_answer Nothing words = whole Done words
stated_answer Outcome words =
    elim (word_behind_sign words)
    [ Ok word ↦ ok_or (option_map Tried (outcome_of word)) BadCommand | Err fault ↦ Err fault ]
stated_answer Steps words =
    elim (word_behind_sign words)
    [ Ok word ↦ ok_or (option_map Moved (decimal_of 9 word)) BadCommand | Err fault ↦ Err fault ]

-- an action and what is stated of it, or the line's first fault
unfoldable pub statement_in : List ℕ → Result Statement DebugError
statement_in line =
    then_with (command_first Replays [] (words_of line))
    (λ command rest.
    elim command.verb [
      | Show view ↦ Err BadCommand
      | Tell follow ↦ Err BadCommand
      | Act action ↦
          elim (stated_answer (action_row action).states rest) [
            | Ok stated ↦ Ok (record { action = action; given = command.given; stated = stated })
            | Err fault ↦ Err fault
          ]
    ])

abbrev pub same_outcome : tried.Outcome → tried.Outcome → Bool
same_outcome outcome.Moved outcome.Moved = true
same_outcome outcome.Waits outcome.Waits = true
same_outcome outcome.Held outcome.Held = true
same_outcome outcome.Stopped outcome.Stopped = true
same_outcome one other = false

-- the answer is the stated one, numbers by value
abbrev pub is_same : Answer → Answer → Bool
is_same Done Done = true
is_same (Tried one) (Tried other) = same_outcome one other
is_same (Moved one) (Moved other) = one == other
is_same one other = false

-- how many stated outcomes an answer is compared with
abbrev pub comparisons : Answer → ℕ
comparisons Done = 0
comparisons (Tried outcome) = 1
comparisons (Moved steps) = 1
comparisons (Reached reached) = 0
comparisons (Ran made) = 0

-- One line, with its number: how many outcomes were compared, and the chip afterwards; or the
-- fault. A line without any character is skipped.
unfoldable pub line_on : Profile → ℕ → Chip → List ℕ → Result (ℕ × Chip) LineError
line_on profile line chip [] = Ok (0, chip)
line_on profile line chip (c ∷ text) =
    elim (statement_in (c ∷ text)) [
      | Err fault ↦ Err (Bad line fault)
      | Ok statement ↦
          let done = did_as profile statement.action statement.given chip in
          elim done.0 [
            | Err fault ↦ Err (Bad line fault)
            | Ok answer ↦ if is_same answer statement.stated then Ok (comparisons answer, done.1)
                else Err (Differs line)
          ]
    ]

-- lines from a number on, behind a number of outcomes that were compared
abbrev pub lines_on : Profile → ℕ → ℕ → Chip → List (List ℕ) → Result ℕ LineError
lines_on profile line count chip [] = Ok count
lines_on profile line count chip (text ∷ lines) =
    elim (line_on profile line chip text) [
      | Ok next ↦ lines_on profile (line + 1) (count + next.0) next.1 lines
      | Err fault ↦ Err fault
    ]

-- the result of the lines behind a head, in a profile
abbrev pub IsReplayedFrom : Profile → List ℕ → Result ℕ ReplayError → Type 0
IsReplayedFrom profile text answer =
    (chip : Chip) × (head : Head) × IsBegun profile text (Ok (chip, head))
    × (result_map_both (λ count. count) fault_of_line
    (lines_on profile (head.line + 1) 0 chip head.commands) ≡ answer)

abbrev pub IsReplayedAs : Profile → List ℕ → Result ℕ ReplayError → Type 0
IsReplayedAs profile text (Ok count) = IsReplayedFrom profile text (Ok count)
IsReplayedAs profile text (Err fault) =
    IsBegun profile text (Err fault) ⊎ IsReplayedFrom profile text (Err fault)

-- How many stated outcomes of a text were compared, if all are right in the text's profile; or the
-- first fault: of its head, or else of its commands.
abbrev pub IsReplayed : List ℕ → Result ℕ ReplayError → Type 0
IsReplayed text answer = IsReplayedAs (profile_in text) text answer
