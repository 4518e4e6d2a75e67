-- The watch over the steps of a run decides whether the chip is determinate within them.
use Rattle.std.proofs.Common.{◌≡◌, ◌∙◌, ℕ, Bool, true, false, List, refl, sym}
use Rattle.ga_chip.specs.Chip.{Chip}
use Rattle.ga_chip.specs.Run.{Event, words_fed}
use Rattle.ga_chip.specs.Legal.{IsLegal}
use Rattle.ga_observe.specs.Laws.{events_in}
use Rattle.ga_race.specs.Clocks.{steps_in}
use Rattle.ga_race.specs.Decides.{WatchDecides, WatchFindsRaces}
use Rattle.ga_race.specs.Races.{IsDeterminateWithin}
use Rattle.ga_race.specs.Watch.{finds_race}
use Rattle.ga_race.proofs.Differs.{race_differs}
use Rattle.ga_race.proofs.Embedded.{no_race}
use Rattle.ga_race.proofs.Exact.{finds}
use Rattle.ga_race.proofs.Following.{finds_same}
use Rattle.ga_race.proofs.Watching.{finds_all}

pub watch_finds : WatchFindsRaces
watch_finds chip events legal found =
    finds chip (events_in events) legal (sym (finds_same chip events legal) ∙ found)

-- without a race the chip is determinate
pub quiet_within : (chip : Chip) (events : List (ℕ × Event)) → IsLegal chip
    → finds_race chip events ≡ false → IsDeterminateWithin chip (steps_in chip (events_in events))
    (words_fed chip (events_in events))
quiet_within chip events legal quiet =
    no_race chip (events_in events) legal
    (finds_all chip (events_in events) legal (sym (finds_same chip events legal) ∙ quiet))

pub watch_decides : WatchDecides
watch_decides chip events legal =
    (quiet_within chip events legal, by (finds_race chip events) refl)
  where
    by : (b : Bool) → finds_race chip events ≡ b
        → IsDeterminateWithin chip (steps_in chip (events_in events))
        (words_fed chip (events_in events)) → finds_race chip events ≡ false
    by true e determinate =
        absurd ((race_differs chip (events_in events) legal
        (watch_finds chip events legal e)).1 determinate)
    by false e determinate = e
