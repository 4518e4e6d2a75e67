use Rattle.std.proofs.Common.{◌≡◌, arith}
use Rattle.ga_waits.proofs.Rings.{all_next}
use Rattle.ga_waits.proofs.ring.next_nodes.Goals as goal

pub returns : goal.returns
returns c =
    let all : c.loop-index.index ≡ 144 = omega arith in
    all_next c.args.chip.now c.loop-index.nexts c.legal.ensures c.loop-index.invariant.count
    (λ k below. c.loop-index.invariant.each k (omega (arith, all, below)))
