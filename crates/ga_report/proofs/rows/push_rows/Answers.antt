use Rattle.std.proofs.Common.{◌≡◌, ◌∙◌, ◌<◌, ◌++◌, ap, arith, length, string_bytes}
use Rattle.std.specs.List.{flat_map, range_with_len}
use Rattle.ga_profile.proofs.Writing.{part_more}
use Rattle.ga_report.specs.Rows.{row_at, rows}
use Rattle.ga_report.proofs.Reading.{row_read}
use Rattle.ga_report.proofs.rows.push_rows.Goals as goal

pub loop-index-preserved : goal.loop-index-preserved
loop-index-preserved c =
    let nodes = c.args.nodes.now in
    let timeline = c.args.timeline.now in
    let index = c.loop-index.index in
    let text = string_bytes c.loop-index.text in
    let within : index < length nodes = omega (arith, c.requires, c.loop-index-test.true) in
    let in_counts : index < length timeline.counts.items =
    omega (arith, timeline.counted, c.loop-index-test.true) in
    part_more (row_at nodes timeline) index (string_bytes c.args.text.now) text _
    c.loop-index.invariant
    (row_read nodes timeline c.as_slice.result.now index c.at.result _ c.index.result.now _
    c.as_slice-in-loop-index.result.now text _ within in_counts c.at.ensures c.index.ensures
    (c.as_slice.ensures.value ∙ c.in_ok-shown.ensures) c.as_slice-in-loop-index.ensures.value
    c.in_ok-push_row_if.ensures)

pub returns : goal.returns
unfolding rows
returns c =
    let all : c.loop-index.index ≡ 144 = omega arith in
    c.loop-index.invariant
    ∙ ap (λ count. string_bytes c.args.text.now
    ++ flat_map (row_at c.args.nodes.now c.args.timeline.now) (range_with_len 0 count)) all
