use Rattle.std.proofs.Common.{◌≡◌, ◌≤◌, length}
use Rattle.ga_wave.specs.inner.Traced.{names_below}
use Rattle.ga_wave.proofs.wave.shown_nodes.Given as goal

-- as many nodes were looked at
abbrev pub invariant-loop-index : goal.invariant-loop-index
invariant-loop-index l =
    (l.shown.items ≡ names_below l.nodes l.index) × (length l.shown.items ≤ l.index)
