-- The next command of lines, and what is checked from it on.
use Rattle.std.specs.Prelude.{◌≡◌, ℕ, suc, ◌+◌, List, [], ◌∷◌, Option, Some, None, Result, Ok, Err, if◌then◌else◌, length}
use Rattle.std.specs.Borrow.{Bor}
use Rattle.ga_transcript.specs.declared.lines.LinesLeft.{LinesLeft}
use Rattle.ga_transcript.specs.Following.{Difference, Lines, Step, checked, same_lines, wanted}
use Rattle.ga_transcript.specs.Line.{by_kind, kind_of}

pub record Next : Type 0 where
  -- the number of the command's line
  pub number : ℕ
  pub command : List ℕ
  pub behind : Lines

-- the next command; the first line has this number
abbrev pub next_command : ℕ → Lines → Option Next
next_command number [] = None
next_command number (line ∷ lines) =
    by_kind (kind_of line)
    (λ command. Some (record { number = number; command = command; behind = lines }))
    (next_command (suc number) lines)
    (next_command (suc number) lines)

-- the check of the lines behind a command of this number, whose actual reply is these lines
abbrev pub checked_behind : {S : Type 0} → Step S → ℕ → ℕ → S → Lines → Lines → Result ℕ Difference
checked_behind step number count state lines came =
    if same_lines (wanted lines) came then checked step (suc number) count state lines
    else Err (record { line = number; wanted = wanted lines; came = came })

-- the check from a command on, behind a number of commands
abbrev pub checked_next : {S : Type 0} → Step S → ℕ → S → Option Next → Result ℕ Difference
checked_next step count state None = Ok count
checked_next step count state (Some next) =
    checked_behind step next.number (suc count) (step next.command state).1 next.behind
    (step next.command state).0

-- a command that the code has, behind which lines are left
abbrev pub next_of : Option (Bor (List ℕ)) → LinesLeft → Option Next
next_of None left = None
next_of (Some command) left =
    Some (record { number = left.number; command = command.now; behind = left.lines })

-- the command is the next one of the lines that were left before
abbrev pub IsNext : Option (Bor (List ℕ)) → LinesLeft → LinesLeft → Type 0
IsNext next new old = next_of next new ≡ next_command (old.number + 1) old.lines

-- how many lines there are from a command on
abbrev pub lines_from : Option (Bor (List ℕ)) → LinesLeft → ℕ
lines_from None left = length left.lines
lines_from (Some command) left = suc (length left.lines)
