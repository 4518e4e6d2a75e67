use Rattle.std.proofs.Common.{◌≡◌, ◌∙◌, ◌++◌, ap, arith, string_bytes}
use Rattle.std.specs.List.{flat_map, range_with_len}
use Rattle.ga_place.specs.Cell.{name_at}
use Rattle.ga_waits.specs.Closed.{stuck_in}
use Rattle.ga_waits.specs.Label.{images_in}
use Rattle.ga_waits.specs.Line.{node_lines}
use Rattle.ga_waits.specs.Waits.{all_node_lines, text_of}
use Rattle.ga_waits.proofs.Writing.{lines_more}
use Rattle.ga_waits.proofs.text.push_nodes.Goals as goal

pub loop-index-preserved : goal.loop-index-preserved
loop-index-preserved c =
    let images = images_in c.args.images in
    let chip = c.args.chip.now in
    let text = string_bytes c.loop-index.text in
    let node = c.at-node.result in
    let wrote = c.in_ok-push_line.ensures ∙ ap (λ stuck. text
    ++ text_of (node_lines images chip stuck node)) (c.contains.ensures ∙ c.requires.stuck node)
    ∙ ap (λ name. text ++ text_of (node_lines images chip (stuck_in chip name) name))
    c.at-node.ensures in
    lines_more (λ index. node_lines images chip (stuck_in chip (name_at index)) (name_at index))
    c.loop-index.index (string_bytes c.args.text.now) text _ c.loop-index.invariant wrote

pub returns : goal.returns
unfolding all_node_lines
returns c =
    let images = images_in c.args.images in
    let chip = c.args.chip.now in
    let all : c.loop-index.index ≡ 144 = omega arith in
    c.loop-index.invariant
    ∙ ap (λ count. string_bytes c.args.text.now ++ text_of (flat_map (λ index. node_lines images
    chip (stuck_in chip (name_at index)) (name_at index)) (range_with_len 0 count))) all
