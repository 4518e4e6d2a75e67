use Rattle.std.proofs.Common.{◌≡◌, ◌∙◌, ◌++◌, length, map, refl, ap, sym, subst, arith}
use Rattle.std.proofs.lemmas.List.{length-map}
use Rattle.std.specs.Prelude.{OnOk}
use Rattle.ga_disasm.specs.Disassembling.{item_view, items_of}
use Rattle.ga_lint.specs.NodeView.{NodeView}
use Rattle.ga_lint.specs.NodeWarnings.{node_warnings}
use Rattle.ga_lint.proofs.Sections.{items_length, own_places, same_view}
use Rattle.ga_source.specs.Item.{item_of}
use Rattle.ga_source.specs.Program.{items_at}
use Rattle.ga_source.specs.Token.{place_of}
use Rattle.ga_lint.proofs.linting.push_section.Goals as goal

pub invariant_of-node_text : goal.invariant_of-node_text
invariant_of-node_text c =
    let size : length c.as_slice.result.now ≡ length c.words.result.now =
    sym (length-map c.as_slice.result.now item_view)
    ∙ ap (λ words. length (map item_view words)) c.as_slice.ensures.value
    ∙ ap length c.in_ok-words.ensures.items
    ∙ items_length 0 c.code_len.result c.words.result.now in
    record { few = omega (arith, size, c.words.ensures.most) }

pub returns : goal.returns
returns c =
    let image = c.args.image.now in
    let items = items_at c.args.program.now c.args.section in
    let node : NodeView = record {
      items = map item_of c.items_of.result.now;
      item_places = map (λ found. place_of found.place) c.args.own.now;
      image = image;
      words = map item_view c.as_slice.result.now;
      word_places = map place_of c.as_slice-2.result.now;
    } in
    let words_are = ap (map item_view) c.as_slice.ensures.value ∙ c.in_ok-words.ensures.items
    ∙ ap (λ n. items_of n c.words.result.now) c.code_len.ensures.value
    ∙ ap (items_of image.code_len) c.words.ensures.value in
    let places_are = ap (map place_of) c.as_slice-2.ensures.value
    ∙ c.in_ok-places.ensures.places in
    let same = same_view node items image c.items_of.ensures
    (own_places c.args.own.now items c.requires) refl words_are places_are in
    subst (λ (v : NodeView). OnOk c.push_node.result (c.push_node.new.warnings.items
    ≡ c.args.warnings.now.items ++ node_warnings c.args.node v)) same c.push_node.ensures
