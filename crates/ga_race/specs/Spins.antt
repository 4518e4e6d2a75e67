-- Nodes that spin, and what a run without races shows if some nodes spin at its end.
use Rattle.std.specs.Prelude.{◌≡◌, ◌≢◌, ℕ, ◌≤◌, ◌<◌, Bool, true, false, List, get_or, ◌⊎◌, Some}
use Rattle.ga_place.specs.Cell.{name_at}
use Rattle.ga_place.specs.declared.side.Side.{Side}
use Rattle.ga_node.specs.Spins.{Spins}
use Rattle.ga_chip.specs.declared.outcome.Outcome.TheVariants.{Held, Moved}
use Rattle.ga_chip.specs.Part.{Part}
use Rattle.ga_chip.specs.Chip.{Chip, part_of, tried}
use Rattle.ga_chip.specs.Run.{Event, ran, words_fed}
use Rattle.ga_chip.specs.Legal.{IsLegal}
use Rattle.ga_race.specs.Clocks.{steps_in}
use Rattle.ga_race.specs.Races.{HasNoRace, IsDeterminate, IsFed}

-- A node of a chip spins, and it has no breakpoint.
pub record IsSpinning (chip : Chip) (name : ℕ) : Type 0 where
  pub part : Part
  pub there : part_of chip name ≡ Some part
  pub spins : Spins part.state
  pub unbroken : (address : ℕ) → get_or part.breaks address false ≡ false

-- A node rests: no try of it is moved, and no breakpoint holds it.
abbrev pub IsResting : Chip → ℕ → Type 0
IsResting chip name =
    (side : Side) → ((tried chip name side).0 ≢ Moved) × ((tried chip name side).0 ≢ Held)

-- a node rests or spins, by whether it spins
abbrev pub RestsOrSpins : Chip → ℕ → Bool → Type 0
RestsOrSpins chip name true = IsSpinning chip name
RestsOrSpins chip name false = IsResting chip name

-- each node rests or spins, by a list that has for each one, in order of name, whether it spins
abbrev pub ShowsSpins : Chip → List Bool → Type 0
ShowsSpins chip spins =
    (index : ℕ) → index < 144 → RestsOrSpins chip (name_at index) (get_or spins index false)

-- each node rests or spins
abbrev pub IsRestOrSpins : Chip → Type 0
IsRestOrSpins chip = (name : ℕ) → IsResting chip name ⊎ IsSpinning chip name

-- If each node rests or spins at the end of a run without races, the chip is determinate, and no
-- run makes more steps than this one of a node that rests at its end.
abbrev pub NoRaceSpinning : Type 0
NoRaceSpinning =
    (chip : Chip) (events : List Event) → IsLegal chip → HasNoRace chip events
    → IsRestOrSpins (ran chip events) → IsDeterminate chip (words_fed chip events)
    × ((others : List Event) → IsFed chip others (words_fed chip events) → (name : ℕ)
    → IsResting (ran chip events) name → steps_in chip others name ≤ steps_in chip events name)
