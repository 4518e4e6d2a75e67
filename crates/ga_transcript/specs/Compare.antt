-- All commands of a transcript that have other replies, and the report on them.
use Rattle.std.specs.Prelude.{ℕ, ◌+◌, ◌-◌, ◌==◌, Bool, List, [], ◌++◌, codes, filter, length, nat_lt, take, Result, Ok, Err, if◌then◌else◌, string_bytes}
use Rattle.std.specs.Fmt.{decimal}
use Rattle.std.specs.List.{flat_map}
use Rattle.ga_debug.specs.Beginning.{Start}
use Rattle.ga_transcript.specs.declared.differences.Comparison.{Comparison}
use Rattle.ga_transcript.specs.Check.{Fault, TooLong, IfMet, IsBehindHead, signed, unless_early}
use Rattle.ga_transcript.specs.Following.{Compared, Lines, compared, differs, early_reply}
use Rattle.ga_transcript.specs.Reply.{step_from}

-- how many lines there are beyond the ten that are shown, if there are more
abbrev pub more_lines : ℕ → List ℕ
more_lines count =
    if nat_lt 10 count then codes "  and " ++ decimal (count - 10) ++ codes " more\n" else []

-- the first ten lines, each behind a sign and ended by LF, and how many more there are
abbrev pub excerpt : ℕ → Lines → List ℕ
excerpt sign lines = signed sign (take 10 lines) ++ more_lines (length lines)

-- `NAME:LINE: differs: > COMMAND`, and both replies
unfoldable pub difference_text : List ℕ → Compared → List ℕ
difference_text name found =
    name ++ codes ":" ++ decimal found.line ++ codes ": differs: > " ++ found.command ++ codes "\n"
    ++ excerpt 45 found.wanted ++ excerpt 43 found.came

-- What is found of the commands of a transcript.
pub record View : Type 0 where
  pub commands : ℕ
  pub differences : ℕ
  pub report : List ℕ

-- how many commands there are, how many differ, and the report on these
unfoldable pub comparison_of : List ℕ → List Compared → View
comparison_of name commands = record {
  commands = length commands;
  differences = length (filter differs commands);
  report = flat_map (difference_text name) (filter differs commands);
}

abbrev pub comparison_view : Comparison → View
comparison_view found = record {
  commands = found.commands;
  differences = found.differences;
  report = string_bytes found.report;
}

-- a report has 268,435,456 bytes at most
abbrev pub unless_long_report : View → Result View Fault
unless_long_report found =
    if nat_lt 268435456 (length found.report) then Err TooLong else Ok found

-- what is found of the lines behind a head, in a file of this name
unfoldable pub compared_from : List ℕ → Start → Result View Fault
compared_from name start =
    let first = start.line + 1 in
    unless_early (early_reply first start.commands)
    (unless_long_report (comparison_of name
    (compared (step_from start) first start.chip start.commands)))

-- What is found of all commands of a transcript; or its first fault: of its head, a reply before
-- all commands, or a report that would be too long.
abbrev pub IsCompared : List ℕ → List ℕ → Result View Fault → Type 0
IsCompared name text answer = IsBehindHead text (compared_from name) answer

-- no command differs
abbrev pub is_same : View → Bool
is_same found = found.differences == 0

-- The same; but if no command differs, and expectations aren't met, that is the fault.
abbrev pub IsComparedIfMet : List ℕ → List ℕ → Result View Fault → Type 0
IsComparedIfMet name text answer = IfMet text is_same (IsCompared name text) answer
