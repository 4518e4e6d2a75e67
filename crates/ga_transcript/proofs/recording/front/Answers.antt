use Rattle.std.proofs.Common.{string_bytes}
use Rattle.ga_transcript.proofs.Writing.{front_next}
use Rattle.ga_transcript.proofs.recording.front.Goals as goal

pub loop-left-preserved : goal.loop-left-preserved
loop-left-preserved c =
    front_next (string_bytes c.loop-left.front) (string_bytes c.push_line.new.text)
    c.in-Some-next.line.now c.loop-left.lines c.next-in-loop-left.new.self c.loop-left.left _
    c.loop-left-test.true c.in-Some-next.ensures.steps c.in_ok-push_line.ensures
    c.loop-left.invariant
