-- What a run shows of a race, of which a witness is made.
use Rattle.std.specs.Prelude.{◌≡◌, ◌<◌, ◌^◌, ℕ, List}
use Rattle.ga_chip.specs.Chip.{Chip}
use Rattle.ga_chip.specs.declared.outcome.Try.{Try}
use Rattle.ga_observe.specs.Seen.{steps_seen, turns_numbered}
use Rattle.ga_race.specs.Found.{IsAmong}
use Rattle.ga_race.specs.declared.found.Race.{Race}
use Rattle.ga_input.specs.declared.loading.Loading.{Loading}
use Rattle.ga_views.specs.Witness.{LeadsTo, witness_session}

-- Some turns of a chip, whose number has 32 bits, have a race, and its take is in one of them.
pub record HasShown (chip : Chip) (race : Race) : Type 0 where
  pub turns : ℕ
  pub few : turns < 2 ^ 32
  pub among : IsAmong chip.cells (steps_seen chip (turns_numbered turns)) race
  pub before : race.take.turn < turns

-- the session of a way to a race
abbrev pub IsSessionOf : Loading → List ℕ → Chip → Race → List ℕ → Type 0
IsSessionOf loading input chip race session =
    (way : List Try) × LeadsTo chip race way × (session ≡ witness_session loading input race way)
