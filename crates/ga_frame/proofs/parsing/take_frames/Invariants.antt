use Rattle.std.proofs.Common.{length, map}
use Rattle.ga_frame.specs.Frame.{frame_view}
use Rattle.ga_frame.proofs.Taking.{ReadSoFar}
use Rattle.ga_frame.proofs.parsing.take_frames.Given as goal

abbrev pub invariant-loop-frames : goal.invariant-loop-frames
invariant-loop-frames l = ReadSoFar l.words l.rest (map frame_view l.frames.items)

abbrev pub decreases-loop-frames : goal.decreases-loop-frames
decreases-loop-frames l = length l.rest
