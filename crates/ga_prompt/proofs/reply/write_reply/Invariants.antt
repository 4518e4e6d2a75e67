use Rattle.std.proofs.Common.{◌≡◌, ◌++◌, ℕ, List}
use Rattle.std.specs.Prelude.{map}
use Rattle.std.specs.Io.KnownBytes.{Appends}
use Rattle.ga_transcript.specs.Line.{as_reply}
use Rattle.ga_transcript.specs.Reply.{reply_lines}
use Rattle.ga_prompt.specs.Talk.{ended}
use Rattle.ga_prompt.proofs.reply.write_reply.Given as goal

-- what was written, and the lines that are left
abbrev pub invariant-loop-line : goal.invariant-loop-line
invariant-loop-line g l =
    (front : List ℕ)
    × Appends (g.W.Write.contents l.initial.writer) (g.W.Write.contents l.writer) front
    × (ended (reply_lines l.reply) ≡ front ++ ended (map as_reply l.line-iterator))
