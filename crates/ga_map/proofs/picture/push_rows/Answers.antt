use Rattle.std.proofs.Common.{◌≡◌, ◌∙◌, ◌-◌, ◌++◌, ap, arith, string_bytes}
use Rattle.std.specs.List.{flat_map, range_with_len}
use Rattle.ga_map.specs.Picture.{row_text}
use Rattle.ga_map.proofs.Writing.{part_more}
use Rattle.ga_map.proofs.picture.push_rows.Goals as goal

pub loop-count-preserved : goal.loop-count-preserved
loop-count-preserved c =
    part_more (λ count. row_text c.args.chip.now (7 - count)) c.loop-count.count
    (string_bytes c.args.text.now) (string_bytes c.loop-count.text) _ c.loop-count.invariant
    c.in_ok-push_row.ensures

pub returns : goal.returns
returns c =
    let all : c.loop-count.count ≡ 8 = omega arith in
    c.loop-count.invariant
    ∙ ap (λ n. string_bytes c.args.text.now
    ++ flat_map (λ count. row_text c.args.chip.now (7 - count)) (range_with_len 0 n)) all
