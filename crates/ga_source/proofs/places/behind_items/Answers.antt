use Rattle.ga_source.proofs.ItemPlaces.{behind_next}
use Rattle.ga_source.proofs.places.behind_items.Goals as goal

pub loop-item-preserved : goal.loop-item-preserved
loop-item-preserved c =
    behind_next c.args.items.now c.loop-item.item-index c.token_count.result c.item-item.result
    c.loop-item.rest.now c.behind-rest.result.now _ c.loop-item-test.true c.item-item.is
    c.loop-item.invariant c.token_count.ensures c.behind-rest.ensures
