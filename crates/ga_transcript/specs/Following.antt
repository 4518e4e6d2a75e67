-- What is done with the lines behind `go`, by what each command replies and does.
use Rattle.std.specs.Prelude.{ℕ, suc, Bool, true, false, ◌&&◌, List, [], ◌∷◌, ◌++◌, Option, Some, None, Result, Ok, Err, if◌then◌else◌, not}
use Rattle.std.specs.Str.{bytes_eq}
use Rattle.ga_transcript.specs.Line.{by_kind, kind_of}

abbrev pub Lines : Type 0
Lines = List (List ℕ)

-- the lines that a command replies, and what is behind it
abbrev pub Step : Type 0 → Type 0
Step S = List ℕ → S → Lines × S

-- the number of the first line of a reply before all commands, if there is one; the first line has
-- this number
abbrev pub early_reply : ℕ → Lines → Option ℕ
early_reply number [] = None
early_reply number (line ∷ lines) =
    by_kind (kind_of line) (λ command. None) (early_reply (suc number) lines) (Some number)

-- the lines of a reply before the next command
abbrev pub wanted : Lines → Lines
wanted [] = []
wanted (line ∷ lines) = by_kind (kind_of line) (λ command. []) (wanted lines) (line ∷ wanted lines)

abbrev pub same_lines : Lines → Lines → Bool
same_lines [] [] = true
same_lines (one ∷ ones) (other ∷ others) = bytes_eq one other && same_lines ones others
same_lines ones others = false

-- A command that has another reply than the one behind it.
pub record Difference : Type 0 where
  -- the number of the command's line
  pub line : ℕ
  pub wanted : Lines
  pub came : Lines

-- The number of commands, counted on from a number, if each has the reply that is behind it; or the
-- first difference.
abbrev pub checked : {S : Type 0} → Step S → ℕ → ℕ → S → Lines → Result ℕ Difference
checked step number count state [] = Ok count
checked step number count state (line ∷ lines) =
    by_kind (kind_of line)
    (λ command. if same_lines (wanted lines) (step command state).0
    then checked step (suc number) (suc count) (step command state).1 lines
    else Err (record { line = number; wanted = wanted lines; came = (step command state).0 }))
    (checked step (suc number) count state lines)
    (checked step (suc number) count state lines)

-- A command, with the reply behind it and the actual one.
pub record Compared : Type 0 where
  -- the number of the command's line
  pub line : ℕ
  pub command : List ℕ
  pub wanted : Lines
  pub came : Lines

-- each command, compared; whatever reply is expected, the next one finds what this one left
abbrev pub compared : {S : Type 0} → Step S → ℕ → S → Lines → List Compared
compared step number state [] = []
compared step number state (line ∷ lines) =
    by_kind (kind_of line)
    (λ command. record {
      line = number;
      command = command;
      wanted = wanted lines;
      came = (step command state).0;
    } ∷ compared step (suc number) (step command state).1 lines)
    (compared step (suc number) state lines)
    (compared step (suc number) state lines)

abbrev pub differs : Compared → Bool
differs command = not (same_lines command.wanted command.came)

-- The lines with the actual replies: each is behind its command, in place of the one that was
-- there.
abbrev pub recorded : {S : Type 0} → Step S → S → Lines → Lines
recorded step state [] = []
recorded step state (line ∷ lines) =
    by_kind (kind_of line)
    (λ command. line ∷ ((step command state).0 ++ recorded step (step command state).1 lines))
    (line ∷ recorded step state lines)
    (recorded step state lines)
