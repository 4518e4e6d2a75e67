-- What a verdict shows of all runs of a chip.
use Rattle.std.specs.Prelude.{ℕ, ◌+◌, ◌≤◌, Bool, List}
use Rattle.ga_chip.specs.Chip.{Chip}
use Rattle.ga_chip.specs.Run.{Event, ran, turns_of, words_fed}
use Rattle.ga_race.specs.Clocks.{steps_in}
use Rattle.ga_race.specs.Details.{IsRaceOf}
use Rattle.ga_race.specs.Differs.{GoesTwoWays, HasRace}
use Rattle.ga_race.specs.Races.{IsDeterminate, IsDeterminateWithin, IsFed}
use Rattle.ga_race.specs.Rounds.{GoesRound, HasNoBreaks}
use Rattle.ga_race.specs.Spins.{IsRestOrSpins, IsResting, ShowsSpins}
use Rattle.ga_race.specs.declared.found.Race.{Race}
use Rattle.ga_race.specs.declared.verdict.Verdict.{Verdict}
use Rattle.ga_race.specs.declared.verdict.Verdict.TheVariants as verdict

-- any two runs agree in which no node makes more steps than in some turns
abbrev pub AgreesFor : Chip → ℕ → Type 0
AgreesFor chip turns =
    IsDeterminateWithin chip (steps_in chip (turns_of turns)) (words_fed chip (turns_of turns))

-- A run ends at rest: each node rests or spins at its end, as this list shows. So any two runs
-- agree, and none has more steps than this one of a node that rests.
pub record EndsAtRest (chip : Chip) (events : List Event) (spins : List Bool) : Type 0 where
  pub shown : ShowsSpins (ran chip events) spins
  pub rest : IsRestOrSpins (ran chip events)
  pub determinate : IsDeterminate chip (words_fed chip events)
  pub most : (others : List Event) → IsFed chip others (words_fed chip events) → (name : ℕ)
      → IsResting (ran chip events) name → steps_in chip others name ≤ steps_in chip events name

-- Some turns end behind two periods in which a chip goes round.
pub record EndsRound (chip : Chip) (turns period : ℕ) : Type 0 where
  pub first : ℕ
  pub twice : first + period + period ≤ turns
  pub round : GoesRound chip first period

-- if a verdict is a race, this holds for it
abbrev pub IfRace : Verdict → (Race → Type 0) → Type 0
IfRace (verdict.Race race) holds = holds race
IfRace (verdict.AtRest spins) holds = Unit {0}
IfRace (verdict.Round period) holds = Unit {0}
IfRace verdict.Open holds = Unit {0}

-- A verdict after some turns is so. A race: these turns have the one that is shown, and within
-- their steps the chip can go two ways. Else any two runs agree in which no node makes more steps,
-- and if no node has a breakpoint, the run ends at rest, or behind two rounds.
abbrev pub IsSo : Chip → ℕ → Verdict → Type 0
IsSo chip turns (verdict.Race race) =
    (found : HasRace chip (turns_of turns)) × IsRaceOf chip (turns_of turns) found race
    × GoesTwoWays chip (turns_of turns) found
IsSo chip turns (verdict.AtRest spins) =
    AgreesFor chip turns
    × (HasNoBreaks chip → EndsAtRest chip (turns_of turns) spins)
IsSo chip turns (verdict.Round period) =
    AgreesFor chip turns × (HasNoBreaks chip → EndsRound chip turns period)
IsSo chip turns verdict.Open = AgreesFor chip turns
