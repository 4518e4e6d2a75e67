use Rattle.std.proofs.Common.{◌≤◌, []}
use Rattle.std.specs.Io.KnownBytes.{Consumes}
use Rattle.ga_prompt.proofs.byte_reads.ByteReads.next_byte.Given as goal

-- nothing was taken
abbrev pub invariant-loop-self : goal.invariant-loop-self
invariant-loop-self g l = record {
  none : Consumes (g.R.Read.remaining l.initial.reader) (g.R.Read.remaining l.reader) [];
  fewer : l.self.left ≤ l.initial.self.left;
}

abbrev pub decreases-loop-self : goal.decreases-loop-self
decreases-loop-self g l = l.self.left
