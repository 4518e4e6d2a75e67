use Rattle.std.proofs.Common.{◌≡◌, ◌∙◌, ◌<◌, ◌++◌, ap, arith, length, string_bytes}
use Rattle.std.specs.List.{flat_map, range_with_len}
use Rattle.ga_profile.proofs.Writing.{part_more}
use Rattle.ga_report.specs.Picture.{node_at, nodes}
use Rattle.ga_report.proofs.Reading.{node_read}
use Rattle.ga_report.proofs.picture.push_nodes.Goals as goal

pub loop-index-preserved : goal.loop-index-preserved
loop-index-preserved c =
    let did = c.args.nodes.now in
    let index = c.loop-index.index in
    let text = string_bytes c.loop-index.text in
    let within : index < length did = omega (arith, c.requires, c.loop-index-test.true) in
    part_more (node_at c.args.chip.now did) index (string_bytes c.args.text.now) text _
    c.loop-index.invariant
    (node_read c.args.chip.now did index c.at-node.result _ c.kind_at_end-kind.result text _ within
    c.at-node.ensures c.kind_at_end-kind.ensures c.in_ok-push_node.ensures)

pub returns : goal.returns
unfolding nodes
returns c =
    let all : c.loop-index.index ≡ 144 = omega arith in
    c.loop-index.invariant
    ∙ ap (λ count. string_bytes c.args.text.now
    ++ flat_map (node_at c.args.chip.now c.args.nodes.now) (range_with_len 0 count)) all
