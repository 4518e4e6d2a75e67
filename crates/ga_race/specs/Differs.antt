-- Runs with races: each shows a moment at which the chip can go two ways.
use Rattle.std.specs.Prelude.{◌≡◌, ◌⊎◌, ◌<◌, ℕ, Bool, true, List, [], ◌∷◌, ◌++◌, IsSome, Some}
use Rattle.std.specs.List.{list_all}
use Rattle.ga_place.specs.Cell.{read_cell}
use Rattle.ga_place.specs.declared.side.Side.{Side}
use Rattle.ga_chip.specs.declared.outcome.Outcome.TheVariants.{Moved}
use Rattle.ga_chip.specs.declared.outcome.Try as asked
use Rattle.ga_chip.specs.Chip.{Chip, part_of, pending, tried}
use Rattle.ga_chip.specs.Run.{Event, Try, ran, sides_of, tries_of, words_fed}
use Rattle.ga_chip.specs.Laws.{AgreesWith, IsPrefix}
use Rattle.ga_chip.specs.Legal.{IsLegal}
use Rattle.ga_chip.specs.Stuck.{is_full}
use Rattle.ga_race.specs.Clocks.{clocks, steps_in}
use Rattle.ga_race.specs.Races.{IsDeterminateWithin, LeavesOut, Posts, StaysWithin}

-- A word comes into a cell that a take left out, by a later post that doesn't come behind the take
-- by causes: its clock doesn't have the take among the steps of the node that made it.
pub record PostsApart (chip : Chip) (before : List Event) (event : Event) (later : List Event)
    (name cell : ℕ) : Type 0 where
  pub mid : List Event
  pub post : Event
  pub rest : List Event
  pub cut : later ≡ mid ++ post ∷ rest
  pub posts : Posts (ran chip (before ++ event ∷ mid)) post cell
  pub early : (clocks chip ((before ++ event ∷ mid) ++ post ∷ [])).posts cell name
      < steps_in chip (before ++ event ∷ []) name

-- A race of a run: by an event a node takes a word at one of several sides, and at another one a
-- word is pending, or comes apart from the take.
pub record HasRace (chip : Chip) (events : List Event) : Type 0 where
  -- the run before the take, the take, and the rest
  pub before : List Event
  pub event : Event
  pub later : List Event
  pub cut : events ≡ before ++ event ∷ later
  -- the node that takes, and the cell that the take leaves out
  pub name : ℕ
  pub cell : ℕ
  pub leaves : LeavesOut (ran chip before) event name cell
  pub comes : IsSome (pending (ran chip before) cell)
      ⊎ PostsApart chip before event later name cell

-- Behind a way a node can take a word at a side, of several, within the steps of a run.
pub record CanTake (chip : Chip) (events way : List Event) (name : ℕ) (side : Side) : Type 0 where
  -- a word is pending there
  pub word : is_full (ran chip way).cells (read_cell name side) ≡ true
  -- so that a try there is Moved
  pub moved : (tried (ran chip way) name side).0 ≡ Moved
  -- and adds this side to those of the node's multiport reads
  pub names : sides_of chip (way ++ Try name side ∷ []) name ≡ sides_of chip way name ++ side ∷ []
  -- no node makes more steps than in the run, and none is fed other words
  pub within : StaysWithin chip (way ++ Try name side ∷ []) (steps_in chip events)
      (words_fed chip events)

-- Within the steps of a run with a race, the chip can go two ways.
pub record GoesTwoWays (chip : Chip) (events : List Event)
    (race : HasRace chip events) : Type 0 where
  -- the run before the take, and behind it what of the run doesn't come behind the take
  pub way : List Event
  pub front : IsPrefix race.before way
  -- so that what is true of each event of the run is true of each of these
  pub among : (p : Event → Bool) → list_all p events ≡ true → list_all p way ≡ true
  -- it leads to where the node is as it was before the take
  pub node : part_of (ran chip way) race.name ≡ Some race.leaves.part
  -- there it can take a word at the side that it took, and at the one that it left out
  pub taken : CanTake chip events way race.name race.leaves.taken
  pub left_out : CanTake chip events way race.name race.leaves.left_out
  -- and the sides of these two runs don't agree
  pub apart : AgreesWith (sides_of chip (way ++ Try race.name race.leaves.taken ∷ []) race.name)
      (sides_of chip (way ++ Try race.name race.leaves.left_out ∷ []) race.name) → ⊥

-- A race of a run shows two ways for the chip to go, so that the chip isn't determinate within the
-- steps of the run.
abbrev pub RaceDiffers : Type 0
RaceDiffers =
    (chip : Chip) (events : List Event) → IsLegal chip → (race : HasRace chip events)
    → GoesTwoWays chip events race
    × (IsDeterminateWithin chip (steps_in chip events) (words_fed chip events) → ⊥)

-- In a run of tries both ways are tries.
abbrev pub TriesDiffer : Type 0
TriesDiffer =
    (chip : Chip) (tries : List asked.Try) (race : HasRace chip (tries_of tries))
    → (two : GoesTwoWays chip (tries_of tries) race)
    → (way : List asked.Try) × (two.way ≡ tries_of way)
