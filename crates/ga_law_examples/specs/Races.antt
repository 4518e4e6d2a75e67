-- What one run shows of all lists of tries.
use Rattle.std.specs.Prelude.{◌≡◌, ◌≤◌, ℕ, List, Some}
use Rattle.ga_chip.specs.declared.outcome.Try.{Try}
use Rattle.ga_chip.specs.Part.{Part}
use Rattle.ga_chip.specs.Chip.{Chip, part_of}
use Rattle.ga_chip.specs.Run.{ran, tries_of, turns_of}
use Rattle.ga_race.specs.Differs.{GoesTwoWays, HasRace}
use Rattle.ga_race.specs.Clocks.{steps_in}
use Rattle.ga_race.specs.Races.{RunsAgree}
use Rattle.ga_race.specs.Spins.{IsResting}

-- Some tries have a race, and other tries lead to the moment at which the chip can go two ways.
pub record CanGoTwoWays (chip : Chip) (tries : List Try) : Type 0 where
  pub race : HasRace chip (tries_of tries)
  pub two : GoesTwoWays chip (tries_of tries) race
  pub way : List Try
  pub way_is : two.way ≡ tries_of way

-- Some turns of a chip ended at a last chip, and show all lists of tries of it.
pub record IsSettled (chip last : Chip) (name word : ℕ) : Type 0 where
  pub turns : ℕ
  pub shown : last ≡ ran chip (turns_of turns)
  -- any tries agree with the turns on their common steps
  pub agree : (tries : List Try) → RunsAgree chip (turns_of turns) (tries_of tries)
  -- and no more of them are made by a node that rests at the end
  pub most : (tries : List Try) (node : ℕ) → IsResting last node
      → steps_in chip (tries_of tries) node ≤ steps_in chip (turns_of turns) node
  -- when the node has made as many steps in them, its T is the word
  pub top : (tries : List Try) (here there : Part)
      → part_of (ran chip (tries_of tries)) name ≡ Some here → part_of last name ≡ Some there
      → here.state.steps ≡ there.state.steps → here.state.t ≡ word
