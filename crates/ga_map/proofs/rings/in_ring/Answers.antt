use Rattle.std.proofs.Common.{ap}
use Rattle.ga_waits.specs.Ring.{next_of}
use Rattle.ga_map.specs.Rings as spec
use Rattle.ga_map.proofs.rings.in_ring.Goals as goal

pub loop-walked-init : goal.loop-walked-init
unfolding spec.in_ring
loop-walked-init c =
    ap (λ next. spec.comes_back (next_of c.args.chip.now) c.args.node 144 next)
    c.next_of-next.ensures
