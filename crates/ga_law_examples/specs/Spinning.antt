-- The chip whose nodes spin: each runs a loop of one word in its own memory, and reads no port.
use Rattle.std.specs.Prelude.{ℕ, [], ◌∷◌, None, map, replicate}
use Rattle.std.specs.List.{range_with_len}
use Rattle.ga_place.specs.Cell.{name_at}
use Rattle.ga_chip.specs.Part.{Part}
use Rattle.ga_chip.specs.Chip.{Chip, given, reset_part}

-- `jump 000`, by which a node goes on at address 000
abbrev pub JUMP_000 : ℕ
JUMP_000 = 0x1_0000

-- a node that spins from the start: as after reset, with `jump 000` at address 000 and P there
abbrev pub spinning_part : ℕ → Part
spinning_part name = given (JUMP_000 ∷ []) 0 (reset_part name)

-- The chip in which all nodes do, and nothing is pending.
unfoldable pub spinning_chip : Chip
spinning_chip = record {
  parts = map (λ index. spinning_part (name_at index)) (range_with_len 0 144);
  cells = replicate 524 None;
}
