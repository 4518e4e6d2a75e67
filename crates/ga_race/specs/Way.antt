-- The way to a race: tries that lead a chip to a moment at which both its words are pending.
use Rattle.std.specs.Prelude.{◌≡◌, ℕ, Some}
use Rattle.ga_place.specs.Cell.{read_cell}
use Rattle.ga_place.specs.declared.side.Side.{Side}
use Rattle.ga_node.specs.State.{State}
use Rattle.ga_node.specs.Need.{need_of}
use Rattle.ga_node.specs.declared.need.Need.TheVariants as need
use Rattle.ga_chip.specs.declared.outcome.Outcome.TheVariants.{Moved}
use Rattle.ga_chip.specs.Chip.{Chip, pending, state_of, tried}
use Rattle.ga_chip.specs.Legal.{IsLegal}
use Rattle.ga_chip.specs.Run.{ran, turns_of}
use Rattle.ga_observe.specs.Seen.{steps_seen, turns_numbered}
use Rattle.ga_race.specs.Found.{IsAmong}
use Rattle.ga_race.specs.declared.found.Race.{Race}

-- A chip is as at the beginning of the turn of a race's take, in turns of which a watch shows this
-- race.
pub record IsBefore (chip : Chip) (race : Race) : Type 0 where
  pub start : Chip
  pub legal : IsLegal start
  pub turns : ℕ
  pub among : IsAmong start.cells (steps_seen start (turns_numbered turns)) race
  pub leads : chip ≡ ran start (turns_of race.take.turn)

-- A word is pending at a side of a node, and a try of the node that names this side is Moved.
pub record IsOffered (chip : Chip) (name : ℕ) (side : Side) (word : ℕ) : Type 0 where
  pub cell : ℕ
  pub reads : read_cell name side ≡ Some cell
  pub holds : pending chip cell ≡ Some word
  pub moved : (tried chip name side).0 ≡ Moved

-- Both words of a race are pending. The reader stands as before the take, and can take either.
pub record ShowsBoth (chip : Chip) (race : Race) : Type 0 where
  pub state : State
  pub there : state_of chip race.take.reader ≡ Some state
  pub number : race.take.number ≡ state.steps
  pub place : race.take.place ≡ state.place
  pub p : race.take.p ≡ state.p
  pub sides : need_of state ≡ need.Take race.take.sides
  pub taken : IsOffered chip race.take.reader race.take.taken.side race.take.taken.word
  pub left_out : IsOffered chip race.take.reader race.left_out.side race.left_out.word
