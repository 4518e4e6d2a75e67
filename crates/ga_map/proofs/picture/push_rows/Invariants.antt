use Rattle.std.proofs.Common.{◌≡◌, ◌-◌, ◌++◌, string_bytes}
use Rattle.std.specs.List.{flat_map, range_with_len}
use Rattle.ga_map.specs.Picture.{row_text}
use Rattle.ga_map.proofs.picture.push_rows.Given as goal

-- as many rows are written
abbrev pub invariant-loop-count : goal.invariant-loop-count
invariant-loop-count l =
    string_bytes l.text
    ≡ string_bytes l.initial.text
    ++ flat_map (λ count. row_text l.chip (7 - count)) (range_with_len 0 l.count)
