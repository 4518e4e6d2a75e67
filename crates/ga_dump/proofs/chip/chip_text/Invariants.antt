use Rattle.std.proofs.Common.{◌≡◌, string_bytes}
use Rattle.std.specs.List.{flat_map, range_with_len}
use Rattle.ga_dump.specs.Chip.{node_at}
use Rattle.ga_dump.proofs.chip.chip_text.Given as goal

abbrev pub invariant-loop-index : goal.invariant-loop-index
invariant-loop-index l = string_bytes l.text ≡ flat_map (node_at l.chip) (range_with_len 0 l.index)
