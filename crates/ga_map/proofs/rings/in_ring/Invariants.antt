use Rattle.std.proofs.Common.{◌≡◌, ◌-◌}
use Rattle.ga_waits.specs.Ring.{next_of}
use Rattle.ga_map.specs.Rings as spec
use Rattle.ga_map.proofs.rings.in_ring.Given as goal

-- the answer is that from here on
abbrev pub invariant-loop-walked : goal.invariant-loop-walked
invariant-loop-walked l =
    spec.comes_back (next_of l.chip) l.node (144 - l._walked) l.next ≡ spec.in_ring l.chip l.node
