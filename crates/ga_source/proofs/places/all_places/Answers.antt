use Rattle.std.proofs.Common.{◌≤◌, ◌∙◌, length, rules}
use Rattle.ga_source.proofs.ItemPlaces.{all_placed}
use Rattle.ga_source.proofs.places.all_places.Goals as goal

pub returns : goal.returns
returns c =
    let tokens = c.deref-token-items.result.now in
    let all : length tokens ≤ c.loop-token.token-index = search rules in
    all_placed c.args.text.now tokens c.loop-token.token-index c.loop-token.places.items
    c.push-2.new.self.items c.end_place.result (c.deref-token-items.ensures.value
    ∙ c.in_ok-tokens.ensures.tokens) all c.loop-token.invariant c.end_place.ensures
    c.in_ok-push-2.ensures.items
