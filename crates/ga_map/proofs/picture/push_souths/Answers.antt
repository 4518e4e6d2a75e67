use Rattle.std.proofs.Common.{◌≡◌, ◌∙◌, ◌+◌, ◌*◌, ◌++◌, ap, arith, string_bytes}
use Rattle.std.specs.List.{flat_map, range_with_len}
use Rattle.ga_place.specs.Cell.{name_at}
use Rattle.ga_map.specs.Picture.{south_cell, row_cells}
use Rattle.ga_map.proofs.Writing.{part_more}
use Rattle.ga_map.proofs.picture.push_souths.Goals as goal

pub loop-column-preserved : goal.loop-column-preserved
loop-column-preserved c =
    part_more (λ column. south_cell c.args.chip.now (name_at (c.args.row * 18 + column)))
    c.loop-column.column (string_bytes c.args.line.now) (string_bytes c.loop-column.line) _
    c.loop-column.invariant
    (c.in_ok-push_south.ensures
    ∙ ap (λ name. string_bytes c.loop-column.line ++ south_cell c.args.chip.now name) c.at.ensures)

pub returns : goal.returns
unfolding row_cells
returns c =
    let all : c.loop-column.column ≡ 18 = omega arith in
    c.loop-column.invariant
    ∙ ap (λ count. string_bytes c.args.line.now ++ flat_map (λ column. south_cell c.args.chip.now
    (name_at (c.args.row * 18 + column))) (range_with_len 0 count)) all
