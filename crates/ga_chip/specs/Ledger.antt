-- The numbers of a cell: how many words were written into it and read from it, and how many are
-- pending.
use Rattle.std.specs.Prelude.{ℕ, length}
use Rattle.std.specs.Option.{option_map_or, option_to_list}
use Rattle.ga_place.specs.Cell.{cell_of}
use Rattle.ga_place.specs.Side.{neighbour_of}
use Rattle.ga_place.specs.declared.side.Side.{Side}
use Rattle.ga_chip.specs.declared.ledger.Ledger.{Ledger}
use Rattle.ga_chip.specs.Part.{Counts, Part, count_at}
use Rattle.ga_chip.specs.Chip.{Chip, part_of, pending}

-- how many words a node has written or read at a side, by its own counts
abbrev pub count_of : (Part → Counts) → Chip → ℕ → Side → ℕ
count_of counts chip name side =
    option_map_or (λ part. count_at side (counts part)) (part_of chip name) 0

-- The numbers of the cell that a node writes at a side. Its neighbour there reads it, and gives the
-- port that they share the same name; without a neighbour all are 0.
abbrev pub ledger_of : Chip → ℕ → Side → Ledger
ledger_of chip name side =
    option_map_or (λ cell. record {
      written = count_of (λ part. part.written) chip name side;
      read = option_map_or (λ other. count_of (λ part. part.read) chip other side)
          (neighbour_of name side) 0;
      pending = length (option_to_list (pending chip cell));
    }) (cell_of name side) (record { written = 0; read = 0; pending = 0 })
