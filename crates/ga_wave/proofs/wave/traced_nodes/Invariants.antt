use Rattle.std.proofs.Common.{◌≡◌, take}
use Rattle.ga_wave.specs.Tracer.{traced_by}
use Rattle.ga_wave.proofs.wave.traced_nodes.Given as goal

-- as many nodes are done
abbrev pub invariant-loop-number : goal.invariant-loop-number
invariant-loop-number l = l.traced.items ≡ traced_by l.chip 0 (take l.number l.nodes)
