-- What is found at the end of a run, or on the way there.
use Rattle.std.specs.Prelude.{◌≡◌, ℕ, ◌+◌, ◌≤◌, ◌<◌, ◌%◌, ◌⊎◌, Bool, true, false, List, get_or, IfSome, Option, Some, None}
use Rattle.ga_place.specs.Cell.{name_at}
use Rattle.ga_node.specs.State.{State}
use Rattle.ga_chip.specs.Chip.{Chip, state_of}
use Rattle.ga_chip.specs.Legal.{IsLegal}
use Rattle.ga_chip.specs.Run.{ran, turns_of}
use Rattle.ga_chip.specs.Stream.{left_of}
use Rattle.ga_race.specs.Rounds.{ComesBack, HasNoBreaks}
use Rattle.ga_race.specs.Spins.{ShowsSpins}
use Rattle.ga_node.specs.Spins.{Spins, uncounted}
use Rattle.ga_race.specs.declared.ending.KeptChip.{KeptChip}
use Rattle.ga_race.specs.declared.ending.RoundSearch.{RoundSearch}
use Rattle.ga_race.specs.declared.found.Race.{Race}
use Rattle.ga_race.specs.declared.verdict.Verdict.{Verdict}
use Rattle.ga_race.specs.declared.verdict.Verdict.TheVariants as verdict

-- the nodes spin that a list names, in order of name
abbrev pub AreSpinning : Chip → List Bool → Type 0
AreSpinning chip spins =
    (index : ℕ) (state : State) → index < 144 → get_or spins index false ≡ true
    → Some state ≡ state_of chip (name_at index) → Spins state

-- A node is as it was earlier in a run, by what is looked at: it has made no step, or its state is
-- the same but for its steps, and as many words of its stream are left.
abbrev pub IsKept : Chip → Chip → ℕ → Type 0
IsKept chip kept name =
    (now before : State) → Some now ≡ state_of chip name → Some before ≡ state_of kept name
    → (now.steps ≡ before.steps)
    ⊎ ((left_of chip name ≡ left_of kept name) × (uncounted now ≡ uncounted before))

-- A chip is as it was kept, but for the nodes that spun there.
pub record IsAgain (kept : KeptChip) (chip : Chip) : Type 0 where
  pub cells : kept.chip.cells ≡ chip.cells
  pub nodes : (index : ℕ) → index < 144
      → (get_or kept.spins index false ≡ true) ⊎ IsKept chip kept.chip (name_at index)

-- A search that has looked at these turns of a chip.
pub record IsSearch (start : Chip) (search : RoundSearch) (turns : ℕ) : Type 0 where
  pub legal : IsLegal start
  pub kept : search.kept.chip ≡ ran start (turns_of search.kept_after)
  pub spins : AreSpinning search.kept.chip search.kept.spins
  pub few : search.kept_after ≤ turns
  pub fours : search.kept_after % 4 ≡ 0
  pub round : HasNoBreaks start → IfSome search.round (ComesBack start search.kept_after)

-- in some turns a round was made twice
pub record MadeTwice (start : Chip) (turns period : ℕ) : Type 0 where
  pub first : ℕ
  pub twice : first + period + period ≤ turns
  pub back : ComesBack start first period

-- if a verdict is a round, this holds for its turns
abbrev pub IfRound : Option Verdict → (ℕ → Type 0) → Type 0
IfRound (Some (verdict.Round period)) holds = holds period
IfRound (Some (verdict.Race race)) holds = Unit {0}
IfRound (Some (verdict.AtRest spins)) holds = Unit {0}
IfRound (Some verdict.Open) holds = Unit {0}
IfRound None holds = Unit {0}

-- a verdict by the race that was found, and by the chip at the end
abbrev pub IsFound : Option Race → Chip → Option Verdict → Type 0
IsFound race chip (Some (verdict.Race details)) = race ≡ Some details
IsFound race chip (Some (verdict.AtRest spins)) =
    (race ≡ None) × (HasNoBreaks chip → ShowsSpins chip spins)
IsFound race chip (Some (verdict.Round period)) = race ≡ None
IsFound race chip (Some verdict.Open) = race ≡ None
IsFound race chip None = race ≡ None
