-- The words at a side of a node.
use Rattle.std.specs.Prelude.{ℕ, Option}
use Rattle.std.specs.Option.{option_and_then}
use Rattle.ga_place.specs.Cell.{cell_of}
use Rattle.ga_place.specs.Side.{neighbour_of}
use Rattle.ga_place.specs.declared.side.Side.{Side}
use Rattle.ga_chip.specs.Chip.{Chip, pending}

-- the word that a node posted at a side, if it isn't read
abbrev pub posted : Chip → ℕ → Side → Option ℕ
posted chip name side = option_and_then (λ cell. pending chip cell) (cell_of name side)

-- the word that a node can take at a side: the one that its neighbour there posted
abbrev pub offered : Chip → ℕ → Side → Option ℕ
offered chip name side =
    option_and_then (λ other. posted chip other side) (neighbour_of name side)
