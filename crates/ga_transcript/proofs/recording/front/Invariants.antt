use Rattle.std.proofs.Common.{◌≡◌, ◌++◌, string_bytes, take}
use Rattle.ga_pack.specs.Model.Text.{lines_of}
use Rattle.ga_transcript.specs.Record.{behind_ends, lines_text}
use Rattle.ga_transcript.proofs.recording.front.Given as goal

-- the lines so far, and those that are left
abbrev pub invariant-loop-left : goal.invariant-loop-left
invariant-loop-left l =
    string_bytes l.front ++ behind_ends (take l.left l.lines)
    ≡ lines_text (take l.count (lines_of l.text))

abbrev pub decreases-loop-left : goal.decreases-loop-left
decreases-loop-left l = l.left
