-- What the lines of a transcript behind `go` are.
use Rattle.std.specs.Prelude.{ℕ, ◌==◌, ◌||◌, List, ◌++◌, codes, drop, eqb, length, if◌then◌else◌}
use Rattle.std.specs.List.{starts_with}

pub data Kind : Type 0 where
  -- a command
  Command : List ℕ → Kind
  -- a comment, or nothing
  Note : Kind
  -- a line of a reply
  Reply : Kind

-- a command is behind `> `, and a comment behind `\ `
unfoldable pub kind_of : List ℕ → Kind
kind_of line =
    if starts_with eqb line (codes "> ") then Command (drop 2 line)
    else if (length line == 0) || starts_with eqb line (codes "\\ ") then Note else Reply

abbrev pub by_kind : {A : Type 0} → Kind → (List ℕ → A) → A → A → A
by_kind (Command text) command note reply = command text
by_kind Note command note reply = note
by_kind Reply command note reply = reply

-- a line of a reply; one that would be read as something else is put behind `. `
abbrev pub as_reply : List ℕ → List ℕ
as_reply line = by_kind (kind_of line) (λ command. codes ". " ++ line) (codes ". " ++ line) line
