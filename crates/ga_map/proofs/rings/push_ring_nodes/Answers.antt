use Rattle.std.proofs.Common.{◌≡◌, ◌∙◌, ◌++◌, ap, arith, string_bytes}
use Rattle.std.specs.List.{flat_map, range_with_len}
use Rattle.ga_place.specs.Cell.{name_at}
use Rattle.ga_waits.specs.Label.{images_in}
use Rattle.ga_map.specs.Rings.{ring_node, ring_nodes}
use Rattle.ga_map.proofs.Writing.{part_more}
use Rattle.ga_map.proofs.rings.push_ring_nodes.Goals as goal

pub loop-index-preserved : goal.loop-index-preserved
loop-index-preserved c =
    let images = images_in c.args.images in
    let text = string_bytes c.loop-index.text in
    part_more (λ index. ring_node images c.args.chip.now (name_at index)) c.loop-index.index
    (string_bytes c.args.text.now) text _ c.loop-index.invariant
    (c.in_ok-push_ring_node.ensures
    ∙ ap (λ name. text ++ ring_node images c.args.chip.now name) c.at.ensures)

pub returns : goal.returns
unfolding ring_nodes
returns c =
    let images = images_in c.args.images in
    let all : c.loop-index.index ≡ 144 = omega arith in
    c.loop-index.invariant
    ∙ ap (λ count. string_bytes c.args.text.now ++ flat_map (λ index. ring_node images
    c.args.chip.now (name_at index)) (range_with_len 0 count)) all
