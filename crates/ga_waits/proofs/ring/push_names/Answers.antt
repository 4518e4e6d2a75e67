use Rattle.std.proofs.Common.{◌++◌, ap, string_bytes}
use Rattle.ga_waits.specs.inner.Next as inner
use Rattle.ga_waits.proofs.Rings.{names_start}
use Rattle.ga_waits.proofs.ring.push_names.Goals as goal

pub loop-walked-init : goal.loop-walked-init
loop-walked-init c =
    ap (λ names. string_bytes c.args.text.now ++ inner.names_text names) (names_start
    (inner.next_in c.args.nexts.now) c.args.first c.next_in-next.result c.next_in-next.ensures)
