-- What the watch finds decides whether the chip is determinate within the steps of a run.
use Rattle.std.specs.Prelude.{◌≡◌, ◌↔◌, ℕ, true, false, List}
use Rattle.ga_chip.specs.Chip.{Chip}
use Rattle.ga_chip.specs.Run.{Event, words_fed}
use Rattle.ga_chip.specs.Legal.{IsLegal}
use Rattle.ga_observe.specs.Laws.{events_in}
use Rattle.ga_race.specs.Clocks.{steps_in}
use Rattle.ga_race.specs.Differs.{HasRace}
use Rattle.ga_race.specs.Races.{IsDeterminateWithin}
use Rattle.ga_race.specs.Watch.{finds_race}

-- If the watch finds a race in a run, the run has one.
abbrev pub WatchFindsRaces : Type 0
WatchFindsRaces =
    (chip : Chip) (events : List (ℕ × Event)) → IsLegal chip → finds_race chip events ≡ true
    → HasRace chip (events_in events)

-- The watch finds no race in a run exactly if the chip is determinate within the steps of the run.
abbrev pub WatchDecides : Type 0
WatchDecides =
    (chip : Chip) (events : List (ℕ × Event)) → IsLegal chip → (finds_race chip events ≡ false)
    ↔ IsDeterminateWithin chip (steps_in chip (events_in events))
    (words_fed chip (events_in events))
