use Rattle.std.proofs.Common.{◌≡◌, ◌+◌, ◌*◌, ◌++◌, string_bytes}
use Rattle.std.specs.List.{flat_map, range_with_len}
use Rattle.ga_place.specs.Cell.{name_at}
use Rattle.ga_map.specs.Picture.{south_cell}
use Rattle.ga_map.proofs.picture.push_souths.Given as goal

-- as many columns are written
abbrev pub invariant-loop-column : goal.invariant-loop-column
invariant-loop-column l =
    string_bytes l.line
    ≡ string_bytes l.initial.line
    ++ flat_map (λ column. south_cell l.chip (name_at (l.row * 18 + column)))
    (range_with_len 0 l.column)
