use Rattle.std.proofs.Common.{◌≡◌, map, take}
use Rattle.ga_wave.specs.inner.Traced.{next_traced}
use Rattle.ga_wave.proofs.wave.next_nodes.Given as goal

-- as many nodes are done
abbrev pub invariant-loop-one : goal.invariant-loop-one
invariant-loop-one l =
    l.next.items ≡ map (next_traced l.side l.chip) (take l.one-index l.traced)
