use Rattle.ga_asm.proofs.WordPlaces.{groups_next}
use Rattle.ga_asm.proofs.places.first_items.Goals as goal

pub loop-count-preserved : goal.loop-count-preserved
loop-count-preserved c =
    groups_next c.args.counts.now c.loop-count.count-index c.loop-count.at _ c.loop-count.rest.now
    c.split_front.result.0.now c.split_front.result.1.now
    c.loop-count.indices.items c.push_group.new.indices.items _ c.loop-count-test.true
    c.split_front.ensures.front c.split_front.ensures.back
    c.loop-count.invariant.0 c.loop-count.invariant.1 c.in_ok-push_group.ensures
