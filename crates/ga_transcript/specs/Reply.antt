-- What the commands of a transcript reply, and the chip afterwards.
use Rattle.std.specs.Prelude.{ℕ, ◌==◌, List, [], Some, length, map, if◌then◌else◌}
use Rattle.ga_chip.specs.Chip.{Chip}
use Rattle.ga_debug.specs.Beginning.{Start}
use Rattle.ga_debug.specs.declared.beginning.Program.{Program}
use Rattle.ga_debug.specs.Pieces.{pieces}
use Rattle.ga_debug.specs.Session.{replied, text_or_refusal}
use Rattle.ga_transcript.specs.Following.{Lines, Step}
use Rattle.ga_transcript.specs.Line.{as_reply}

-- the lines of a text; an empty one has none
abbrev pub lines_in : List ℕ → Lines
lines_in text = if length text == 0 then [] else pieces 10 text

-- all lines of a reply, as a transcript has them
abbrev pub reply_lines : List ℕ → Lines
reply_lines text = map as_reply (lines_in text)

-- the program that the head of a transcript loads
abbrev pub program_of : Start → Program
program_of start = record { images = start.images; start = start.chip }

-- what the commands of a transcript reply and do, whose head loads this program
abbrev pub step_of : Program → Step Chip
step_of program line chip =
    let next = replied (Some program) line chip in
    (reply_lines (text_or_refusal (Some program) line next.0), next.1)

-- the same of a transcript with this start
abbrev pub step_from : Start → Step Chip
step_from start = step_of (program_of start)
