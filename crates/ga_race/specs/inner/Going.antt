-- Whether a try would be moved, by what is seen before it.
use Rattle.std.specs.Prelude.{ℕ, Bool, true, false, ◌&&◌, List, Option, Some, None, is_none, is_some}
use Rattle.std.specs.Option.{option_map_or}
use Rattle.ga_place.specs.Cell.{cell_of, read_cell}
use Rattle.ga_place.specs.Side.{is_among, one_side}
use Rattle.ga_place.specs.declared.side.Side.{Side}
use Rattle.ga_place.specs.declared.side.Sides.{Sides}
use Rattle.ga_node.specs.declared.need.Need.{Need}
use Rattle.ga_node.specs.declared.need.Need.TheVariants as need
use Rattle.ga_chip.specs.Chip.{pending_in}
use Rattle.ga_chip.specs.Stuck.{is_full}

-- a word is pending at the one side of a take, or at the side of several that the try names
abbrev pub goes_at : Option Side → Sides → ℕ → List (Option ℕ) → Side → Bool
goes_at (Some only) sides name cells side = is_full cells (read_cell name only)
goes_at None sides name cells side = is_among side sides && is_full cells (read_cell name side)

-- a try of a node that no breakpoint holds, by its need and the next word of its stream
abbrev pub goes_by : Need → ℕ → List (Option ℕ) → Option ℕ → Side → Bool
goes_by need.Own name cells input side = true
goes_by (need.Take sides) name cells input side = goes_at (one_side sides) sides name cells side
goes_by (need.Post to word) name cells input side = is_some (cell_of name to)
goes_by (need.Check to) name cells input side =
    option_map_or (λ cell. is_none (pending_in cells cell)) (cell_of name to) false
goes_by need.Input name cells input side = is_some input
goes_by (need.Stopped stop) name cells input side = false
