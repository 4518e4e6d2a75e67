-- What a node does by its next try, if that is Moved: by its need, the words of the cells and the
-- next word of its stream.
use Rattle.std.specs.Prelude.{ℕ, List, Option, Some, None, unwrap_or}
use Rattle.std.specs.Option.{option_and_then}
use Rattle.ga_place.specs.Cell.{read_cell}
use Rattle.ga_place.specs.Side.{one_side}
use Rattle.ga_place.specs.declared.side.Side.{Side}
use Rattle.ga_place.specs.declared.side.Sides.{Sides}
use Rattle.ga_node.specs.declared.need.Need.{Need}
use Rattle.ga_node.specs.declared.need.Need.TheVariants as need
use Rattle.ga_chip.specs.Chip.{pending_in}
use Rattle.ga_observe.specs.declared.step.Deed.{Deed}
use Rattle.ga_observe.specs.declared.step.Deed.TheVariants as did

-- a word that is there is taken
abbrev pub took : Side → Sides → Option ℕ → Deed
took side sides (Some word) = did.Took side sides word
took side sides None = did.Own

abbrev pub took_input : Option ℕ → Deed
took_input (Some word) = did.TookInput word
took_input None = did.Own

-- the word that is pending at a side for a node to take
abbrev pub found_at : ℕ → List (Option ℕ) → Side → Option ℕ
found_at name cells side = option_and_then (λ cell. pending_in cells cell) (read_cell name side)

abbrev pub take_by : Side → Sides → ℕ → List (Option ℕ) → Deed
take_by side sides name cells = took side sides (found_at name cells side)

abbrev pub deed_by : Need → ℕ → List (Option ℕ) → Option ℕ → Side → Deed
deed_by need.Own name cells input side = did.Own
deed_by (need.Take sides) name cells input side =
    take_by (unwrap_or (one_side sides) side) sides name cells
deed_by (need.Post to word) name cells input side = did.Posted to word
deed_by (need.Check to) name cells input side = did.SawRead to
deed_by need.Input name cells input side = took_input input
deed_by (need.Stopped stop) name cells input side = did.Own
