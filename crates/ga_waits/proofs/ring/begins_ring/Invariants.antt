use Rattle.std.proofs.Common.{◌≡◌, ◌-◌}
use Rattle.ga_waits.specs.inner.Next as inner
use Rattle.ga_waits.specs.Ring as spec
use Rattle.ga_waits.proofs.ring.begins_ring.Given as goal

-- the answer is that from here on
abbrev pub invariant-loop-walked : goal.invariant-loop-walked
invariant-loop-walked l =
    spec.comes_back (inner.next_in l.nexts) l.first (144 - l._walked) l.next
    ≡ spec.begins_ring (inner.next_in l.nexts) l.first
