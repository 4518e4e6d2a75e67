-- The fault of a transcript with what is shown of it.
use Rattle.std.specs.Prelude.{[], ◌==◌, ◌&&◌, ℕ, ◌+◌, ◌-◌, ◌^◌, Bool, List, None, codes, length, nat_lt, if◌then◌else◌}
use Rattle.std.specs.Str.{bytes_eq, chars}
use Rattle.std.specs.Str.Lines.{lines}
use Rattle.ga_source.specs.declared.error.SourceError.{SourceError}
use Rattle.ga_asm.specs.declared.text.TextError.TheVariants as text_error
use Rattle.ga_debug.specs.declared.replay_error.ReplayError.{ReplayError}
use Rattle.ga_debug.specs.declared.replay_error.ReplayError.TheVariants as replay
use Rattle.ga_transcript.specs.Check.{Fault}
use Rattle.ga_transcript.specs.Check as transcript
use Rattle.ga_explain.specs.Output.{meaning_of}
use Rattle.ga_input.specs.declared.fault.ServeError.{ServeError}
use Rattle.ga_input.specs.declared.fault.ServeError.TheVariants.{Output, Shown, Memory}
use Rattle.ga_input.specs.declared.fault.OutputFault.TheVariants.{TooLong}
use Rattle.ga_input.specs.declared.fault.TextFault.TheVariants.{Replay, EarlyReply, Differs, Failed}
use Rattle.ga_input.specs.Meaning.{head_meaning}
use Rattle.ga_messages.specs.Shown.{numbered_line, shown_lines, shown_text, whole_line}
use Rattle.ga_input.specs.TextFault.{shown_fault}

-- the number of a source line in the whole text, which has two lines before it; a number that is
-- too large stays
abbrev pub behind_head : ℕ → ℕ
behind_head line = if nat_lt line (2 ^ 64 - 2) then line + 2 else line

-- The line at which a fault of a head or of a replay text is shown. If no line is `go`, it is the
-- last one.
abbrev pub head_line : List ℕ → ReplayError → ℕ
head_line text replay.BadProfile = 1
head_line text replay.NoGo = length (lines text)
head_line text (replay.Bad line error) = line
head_line text (replay.Differs line) = line
head_line text error = 2

-- The source lines of a transcript begin at line 3 and end where the line `go` begins. Whether a
-- place is their end, if there is such a line.
abbrev pub is_source_end : List ℕ → ℕ → ℕ → Bool
is_source_end text line column =
    column == 1 && (nat_lt 3 line && bytes_eq (whole_line text line) (codes "go"))

-- the column behind the last character of a line
abbrev pub end_column : List ℕ → ℕ
end_column line = length (chars line) + 1

-- A fault of source lines at its line of the whole text. One at their end is reported behind the
-- last of them.
abbrev pub reported_at : List ℕ → SourceError → ℕ → SourceError
reported_at text error line =
    if is_source_end text line error.column then
    record error { line = line - 1; column = end_column (numbered_line text (line - 1)) }
    else record error { line = line }

-- a fault of source lines is reported as that of a source text, at its line of the whole text
abbrev pub shown_head_fault : List ℕ → ReplayError → ServeError
shown_head_fault text (replay.Source error) =
    shown_fault text (text_error.Source (reported_at text error (behind_head error.line)))
shown_head_fault text (replay.Asm error) =
    shown_fault text (text_error.Asm (record error { line = behind_head error.line }))
shown_head_fault text error =
    let shown = shown_text text (head_line text error) None (head_meaning text error) in
    Shown (Replay error) shown

-- the fault of a transcript; for a difference the expected and the actual lines are shown, and for
-- expectations that aren't met the first reply that says so, whole
abbrev pub shown_transcript_fault : List ℕ → Fault → ServeError
shown_transcript_fault text (transcript.Head error) = shown_head_fault text error
shown_transcript_fault text (transcript.EarlyReply line) =
    Shown (EarlyReply line) (shown_text text line None (meaning_of (codes "EarlyReply")))
shown_transcript_fault text (transcript.Differs line lines) =
    Shown (Differs line) (shown_lines lines)
shown_transcript_fault text (transcript.Failed unmet) =
    Shown (Failed unmet) (shown_lines (numbered_line text unmet.first))
shown_transcript_fault text transcript.TooLong = Output TooLong
shown_transcript_fault text transcript.Memory = Memory
