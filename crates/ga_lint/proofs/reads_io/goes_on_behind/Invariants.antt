use Rattle.std.proofs.Common.{◌≡◌, drop, false}
use Rattle.ga_lint.specs.ReadsIo as spec
use Rattle.ga_lint.proofs.reads_io.goes_on_behind.Given as goal

-- what is left of the word
abbrev pub invariant-loop-op : goal.invariant-loop-op
invariant-loop-op l =
    spec.goes_on_behind l.read (drop l.op-index l.ops) ≡ spec.goes_on_behind false l.ops
