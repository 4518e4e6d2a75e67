use Rattle.std.proofs.Common.{◌≡◌, ◌∙◌, ◌∷◌, ◌++◌, [], ap, map, rules, sym}
use Rattle.std.proofs.lemmas.List.{map-append}
use Rattle.std.proofs.lemmas.Map.Iter.{rest_all, rest_more}
use Rattle.std.specs.Map.Iter.{deref_pair}
use Rattle.ga_pack.specs.Model.Program.{placed_sections}
use Rattle.ga_source.specs.Program.{item_place_of}
use Rattle.ga_source.specs.Section.{section_of}
use Rattle.ga_source.specs.Token.{place_of}
use Rattle.ga_source.proofs.ItemPlaces.{all_sections, places_in, section_next}
use Rattle.ga_source.proofs.program.Program.section_places.Goals as goal

pub loop-part-preserved : goal.loop-part-preserved
loop-part-preserved c =
    let rest = c.loop-part.rest.now in
    let s = section_of (c.in-Some.field-0-0.now, c.in-Some.part.now) in
    let ss = map section_of c.next.new.self in
    let found = map (λ places. map item_place_of places.items) c.loop-part.found.items in
    let own = c.in_ok-own.own in
    let whole = map places_in c.args.self.now in
    let left =
    rest_more deref_pair c.loop-part.part-iterator c.next.new.self c.next.result
    (c.in-Some.field-0-0, c.in-Some.part) c.in-Some.is c.next.ensures.steps in
    let so_far : found ++ map places_in (placed_sections (map place_of rest) (s ∷ ss)) ≡ whole =
    ap (λ es. found ++ map places_in (placed_sections (map place_of rest) (map section_of es)))
    (sym left) ∙ c.loop-part.invariant in
    let pushed : map (λ places. map item_place_of places.items) c.push.new.self.items
    ≡ found ++ map item_place_of own.items ∷ [] =
    ap (map (λ places. map item_place_of places.items)) c.in_ok-push.ensures.items
    ∙ map-append (λ places. map item_place_of places.items) c.loop-part.found.items (own ∷ []) in
    let rows = map places_in (placed_sections (map place_of c.behind_items-rest.result.now) ss) in
    ap (λ t. t ++ rows) pushed
    ∙ section_next rest c.behind-first.result.now c.behind_items-rest.result.now s ss found
    (map item_place_of own.items) whole so_far (search rules) c.behind-first.ensures (search rules)

pub returns : goal.returns
returns c =
    let none =
    rest_all deref_pair c.loop-part.part-iterator c.next.new.self c.next.result c.in-None.is
    c.next.ensures.steps in
    all_sections (map place_of c.loop-part.rest.now) (map section_of c.loop-part.part-iterator) _ _
    c.loop-part.invariant (ap (map section_of) none)
