-- The job `race`: what it writes.
use Rattle.std.specs.Prelude.{◌≡◌, ◌≤◌, ◌<◌, ◌⊎◌, ℕ, Bool, true, List, Ok, Err, Option, Result, length, unwrap_or}
use Rattle.ga_chip.specs.Chip.{Chip}
use Rattle.ga_chip.specs.Run.{moves, turns_of}
use Rattle.ga_observe.specs.Seen.{steps_seen, turns_numbered}
use Rattle.ga_race.specs.Found.{IsAmong}
use Rattle.ga_race.specs.Reads.{multiport_takes}
use Rattle.ga_race.specs.Verdict.{IfRace, IsSo}
use Rattle.ga_race.specs.declared.verdict.Report.{Report}
use Rattle.ga_race.specs.declared.verdict.Verdict.{Verdict}
use Rattle.ga_race.specs.declared.verdict.Verdict.TheVariants as verdict
use Rattle.ga_input.specs.declared.fault.ServeError.{ServeError}
use Rattle.ga_input.specs.declared.loading.Loading.{Loading}
use Rattle.ga_input.specs.Loading.{IsChipIn, is_head}
use Rattle.ga_input.specs.Text.{text_in}
use Rattle.ga_views.specs.RaceText.{IsVerdictText}
use Rattle.ga_views.specs.Witness.{IsWitness}

-- A report on a chip: the verdict after some turns, how many steps they have, and how many
-- multiport reads. A race is among their steps. Without another verdict they are the most turns.
pub record IsReport (chip : Chip) (most : ℕ) (report : Report) : Type 0 where
  pub so : IsSo chip report.turns report.verdict
  pub steps : report.steps ≡ length (moves chip (turns_of report.turns))
  pub reads : report.multiport_reads
      ≡ multiport_takes (steps_seen chip (turns_numbered report.turns))
  pub shown : IfRace report.verdict
      (IsAmong chip.cells (steps_seen chip (turns_numbered report.turns)))
  pub turn : IfRace report.verdict (λ race. race.take.turn < report.turns)
  pub within : report.turns ≤ most
  pub all : report.verdict ≡ verdict.Open → report.turns ≡ most

-- What is shown of a report on the chip of a text, by its verdict: the witness of a race, if that
-- is asked for, or else the text for the report.
abbrev pub IsShown : Chip → Loading → List ℕ → Report → Bool → Verdict
    → Result (List ℕ) ServeError → Type 0
IsShown chip loading text report true (verdict.Race race) answer =
    IsWitness loading text chip race answer
IsShown chip loading text report witness v (Ok shown) =
    IsVerdictText (is_head loading text) text report v shown
IsShown chip loading text report witness v (Err fault) = ⊥

-- The result for the chip of a text, by a report of at most this many turns.
abbrev pub IsJudgedBy : Chip → ℕ → Loading → Bool → List ℕ → Result (List ℕ) ServeError → Type 0
IsJudgedBy chip most loading witness text answer =
    (report : Report) × IsReport chip most report
    × IsShown chip loading text report witness report.verdict answer

-- the same, or the chip's first fault
abbrev pub IsJudged : ℕ → Loading → Bool → List ℕ → Result (List ℕ) ServeError → Type 0
IsJudged most loading witness text answer =
    ((chip : Chip) × IsChipIn loading text (Ok chip)
    × IsJudgedBy chip most loading witness text answer)
    ⊎ ((fault : ServeError) × (answer ≡ Err fault) × IsChipIn loading text (Err fault))

-- the most turns, by the number that is given
abbrev pub most_turns : Option ℕ → ℕ
most_turns turns = unwrap_or turns 1000000

-- what `race` may write for an input, or its first fault
abbrev pub IsRaceOutput : Loading → Option ℕ → Bool → List ℕ → Result (List ℕ) ServeError → Type 0
IsRaceOutput loading turns witness input answer =
    ((text : List ℕ) × (text_in input ≡ Ok text)
    × IsJudged (most_turns turns) loading witness text answer)
    ⊎ ((fault : ServeError) × (answer ≡ Err fault) × (text_in input ≡ Err fault))
