use Rattle.std.proofs.Common.{◌≡◌}
use Rattle.std.specs.List.{flat_map, range_with_len}
use Rattle.ga_dump.specs.Memory.{memory_row}
use Rattle.ga_dump.proofs.memory.memory_text.Given as goal

abbrev pub invariant-loop-row : goal.invariant-loop-row
invariant-loop-row l = l.text.items ≡ flat_map (memory_row l.ram) (range_with_len 0 l.row)
