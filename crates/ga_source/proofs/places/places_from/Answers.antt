use Rattle.std.proofs.Common.{◌≤◌, length, rules}
use Rattle.ga_source.proofs.ItemPlaces.{found_all, found_next}
use Rattle.ga_source.proofs.places.places_from.Goals as goal

pub loop-item-preserved : goal.loop-item-preserved
loop-item-preserved c =
    found_next c.args.items.now c.loop-item.item-index c.token_count.result c.item-item.result
    c.loop-item.rest.now c.behind-rest.result.now c.loop-item.found.items c.push.new.self.items
    c.item_place.result _
    c.loop-item-test.true c.item-item.is c.loop-item.invariant c.item_place.ensures
    c.in_ok-push.ensures.items c.token_count.ensures c.behind-rest.ensures

pub returns : goal.returns
returns c =
    let all : length c.args.items.now ≤ c.loop-item.item-index = search rules in
    found_all c.args.items.now c.loop-item.item-index c.loop-item.rest.now c.loop-item.found.items _
    all c.loop-item.invariant
