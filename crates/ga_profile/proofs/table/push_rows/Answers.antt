use Rattle.std.proofs.Common.{◌≡◌, ◌∙◌, ◌<◌, ◌++◌, ap, arith, length, string_bytes}
use Rattle.std.specs.List.{flat_map, range_with_len}
use Rattle.ga_profile.specs.Table.{row_at, rows}
use Rattle.ga_profile.proofs.Writing.{part_more, row_read}
use Rattle.ga_profile.proofs.table.push_rows.Goals as goal

pub loop-index-preserved : goal.loop-index-preserved
loop-index-preserved c =
    let nodes = c.args.nodes.now in
    let passes = c.args.passes.now in
    let path = c.args.path.now in
    let index = c.loop-index.index in
    let text = string_bytes c.loop-index.text in
    let within : index < length nodes = omega (arith, c.requires.nodes, c.loop-index-test.true) in
    let in_passes : index < length passes =
    omega (arith, c.requires.passes, c.loop-index-test.true) in
    part_more (row_at nodes passes path c.args.turns) index (string_bytes c.args.text.now) text _
    c.loop-index.invariant
    (row_read nodes passes path c.args.turns index c.at.result _ _ text _ within in_passes
    c.at.ensures
    c.in_ok-push_row.ensures)

pub returns : goal.returns
unfolding rows
returns c =
    let all : c.loop-index.index ≡ 144 = omega arith in
    c.loop-index.invariant
    ∙ ap (λ count. string_bytes c.args.text.now
    ++ flat_map (row_at c.args.nodes.now c.args.passes.now c.args.path.now c.args.turns)
    (range_with_len 0 count)) all
