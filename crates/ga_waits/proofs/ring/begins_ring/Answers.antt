use Rattle.ga_waits.specs.inner.Next as inner
use Rattle.ga_waits.proofs.Rings.{at_start}
use Rattle.ga_waits.proofs.ring.begins_ring.Goals as goal

pub loop-walked-init : goal.loop-walked-init
loop-walked-init c =
    at_start (inner.next_in c.args.nexts.now) c.args.first c.next_in-next.result
    c.next_in-next.ensures
