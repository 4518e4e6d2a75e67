-- A transcript with the replies that come.
use Rattle.std.specs.Prelude.{ℕ, ◌+◌, List, [], ◌∷◌, ◌++◌, length, nat_lt, take, Result, Ok, Err, if◌then◌else◌}
use Rattle.std.specs.List.{flat_map}
use Rattle.ga_pack.specs.Model.Text.{lines_of}
use Rattle.ga_debug.specs.Beginning.{Start}
use Rattle.ga_transcript.specs.Check.{Fault, TooLong, IsBehindHead, IsChecked, unless_early}
use Rattle.ga_transcript.specs.Following.{Lines, early_reply, recorded}
use Rattle.ga_transcript.specs.Reply.{step_from}

abbrev pub behind_ends : Lines → List ℕ
behind_ends lines = flat_map (λ line. 10 ∷ line) lines

-- lines as a text, with an LF between two
abbrev pub lines_text : Lines → List ℕ
lines_text [] = []
lines_text (line ∷ lines) = line ++ behind_ends lines

-- the lines of a text up to `go`, and those behind it with the replies that come
abbrev pub recording_of : List ℕ → Start → List ℕ
recording_of text start =
    lines_text
    (take start.line (lines_of text) ++ recorded (step_from start) start.chip start.commands)

-- a recording has 268,435,456 bytes at most
abbrev pub unless_too_long : List ℕ → Result (List ℕ) Fault
unless_too_long recording =
    if nat_lt 268435456 (length recording) then Err TooLong else Ok recording

-- what is recorded of the lines behind a head
unfoldable pub recorded_from : List ℕ → Start → Result (List ℕ) Fault
recorded_from text start =
    let early = early_reply (start.line + 1) start.commands in
    unless_early early (unless_too_long (recording_of text start))

-- A transcript with the replies that come, or its first fault: of its head, a reply before all
-- commands, or a recording that would be too long.
abbrev pub IsRecorded : List ℕ → Result (List ℕ) Fault → Type 0
IsRecorded text answer = IsBehindHead text (recorded_from text) answer

-- each command of a transcript has the reply behind it
abbrev pub Holds : List ℕ → Type 0
Holds text = (count : ℕ) × IsChecked text (Ok count)
