use Rattle.std.proofs.Common.{◌∙◌, map, take, ap, arith, length, sym}
use Rattle.std.proofs.lemmas.List.{length-map, take_all}
use Rattle.ga_pack.specs.Model.Program.{PlacedItem, place_at}
use Rattle.ga_source.specs.Program.{items_at}
use Rattle.ga_source.specs.Token.{place_of}
use Rattle.ga_asm.specs.Places.{first_items, word_places}
use Rattle.ga_asm.specs.inner.Layout.{plain}
use Rattle.ga_asm.proofs.PlaceCount.{as_many}
use Rattle.ga_asm.proofs.WordPlaces.{own_places}
use Rattle.ga_asm.proofs.places.word_places.Goals as goal

pub returns-clause-places : goal.returns-clause-places
unfolding word_places
returns-clause-places c =
    let items = items_at c.args.program.now c.args.section in
    let indices = c.deref-index-items.result.now in
    let all = take_all c.loop-index.index-index indices (omega (arith, c.loop-index-test.false)) in
    let own = own_places c.args.found.now items c.requires in
    c.loop-index.invariant
    ∙ ap (λ ps. map (place_at ps) (take c.loop-index.index-index indices)) own
    ∙ ap (map (place_at (map (λ (i : PlacedItem). i.place) items)))
    (all ∙ c.deref-index-items.ensures.value ∙ c.in_ok-indices.ensures
    ∙ ap (λ l. first_items 0 l (plain c.items_of-items.result.now)) c.item_counts.ensures
    ∙ ap (λ l. first_items 0 c.args.image.now.item_counts l) c.items_of-items.ensures)

pub returns-clause-count : goal.returns-clause-count
returns-clause-count c is =
    sym (length-map c.loop-index.places.items place_of) ∙ ap length (returns-clause-places c)
    ∙ as_many (items_at c.args.program.now c.args.section) c.args.image.now is
