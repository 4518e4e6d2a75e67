use Rattle.std.proofs.Common.{rules, ◌≡◌, ◌∙◌, ◌∷◌, ◌-◌, suc, ap, map, sym}
use Rattle.std.proofs.lemmas.Map.Iter.{rest_all, rest_more}
use Rattle.std.specs.Map.Iter.{deref_pair}
use Rattle.ga_pack.specs.Model.Program.{placed_sections}
use Rattle.ga_source.specs.Program.{item_place, item_place_of, items_at}
use Rattle.ga_source.specs.Section.{section_of}
use Rattle.ga_source.specs.Token.{place_of}
use Rattle.ga_source.proofs.ItemPlaces.{no_section, section_here, section_past}
use Rattle.ga_source.proofs.program.Program.places.Goals as goal

pub returns-then-before-eq0 : goal.returns-then-before-eq0
returns-then-before-eq0 c =
    let rest = c.loop-part.rest.now in
    let s = section_of (c.in-Some.field-0-0.now, c.in-Some.part.now) in
    let ss = map section_of c.next.new.self in
    let left = rest_more deref_pair c.loop-part.part-iterator c.next.new.self c.next.result
    (c.in-Some.field-0-0, c.in-Some.part) c.in-Some.is c.next.ensures.steps in
    let so_far : items_at (placed_sections (map place_of rest) (s ∷ ss)) c.loop-part.before
    ≡ items_at c.args.self.now c.args.section =
    ap (λ es. items_at (placed_sections (map place_of rest) (map section_of es)) c.loop-part.before)
    (sym left) ∙ c.loop-part.invariant in
    let none : c.loop-part.before ≡ 0 = search rules in
    let here = section_here rest c.behind-first.result.now s ss c.loop-part.before
    (items_at c.args.self.now c.args.section) so_far none c.behind-first.ensures in
    search rules

pub loop-part-preserved : goal.loop-part-preserved
loop-part-preserved c =
    let rest = c.loop-part.rest.now in
    let s = section_of (c.in-Some.field-0-0.now, c.in-Some.part.now) in
    let ss = map section_of c.next.new.self in
    let left = rest_more deref_pair c.loop-part.part-iterator c.next.new.self c.next.result
    (c.in-Some.field-0-0, c.in-Some.part) c.in-Some.is c.next.ensures.steps in
    let so_far : items_at (placed_sections (map place_of rest) (s ∷ ss)) c.loop-part.before
    ≡ items_at c.args.self.now c.args.section =
    ap (λ es. items_at (placed_sections (map place_of rest) (map section_of es)) c.loop-part.before)
    (sym left) ∙ c.loop-part.invariant in
    let more : c.loop-part.before ≡ suc (c.loop-part.before - 1) = search rules in
    section_past rest c.behind-first.result.now c.behind_items-rest.result.now s ss
    c.loop-part.before (c.loop-part.before - 1) (items_at c.args.self.now c.args.section) so_far
    more c.behind-first.ensures
    (search rules)

pub returns : goal.returns
returns c =
    let none = rest_all deref_pair c.loop-part.part-iterator c.next.new.self c.next.result
    c.in-None.is c.next.ensures.steps in
    ap (map item_place_of) c.new.ensures.items
    ∙ sym (ap (map item_place) (no_section (map place_of c.loop-part.rest.now)
    (map section_of c.loop-part.part-iterator) c.loop-part.before
    (items_at c.args.self.now c.args.section) c.loop-part.invariant (ap (map section_of) none)))
