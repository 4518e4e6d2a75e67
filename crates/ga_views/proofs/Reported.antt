-- What is shown of a report is what the job `race` shows of its chip.
use Rattle.std.proofs.Common.{◌≡◌, ◌^◌, ◌<◌, ℕ, Bool, true, List, Result, arith, subst, sym}
use Rattle.ga_chip.specs.Chip.{Chip}
use Rattle.ga_observe.specs.Seen.{steps_seen, turns_numbered}
use Rattle.ga_race.specs.Found.{IsAmong}
use Rattle.ga_race.specs.Verdict.{IfRace}
use Rattle.ga_race.specs.declared.found.Race.{Race}
use Rattle.ga_race.specs.declared.verdict.Report.{Report}
use Rattle.ga_race.specs.declared.verdict.Verdict.{Verdict}
use Rattle.ga_race.specs.declared.verdict.Verdict.TheVariants as verdict
use Rattle.ga_input.specs.Fault.{Answers}
use Rattle.ga_input.specs.declared.fault.ServeError.{ServeError}
use Rattle.ga_input.specs.declared.loading.Loading.{Loading}
use Rattle.ga_input.proofs.Faults.{answers}
use Rattle.ga_views.specs.Race.{IsJudgedBy, IsReport, IsShown}
use Rattle.ga_views.specs.Witness.{IsWitness}
use Rattle.ga_views.specs.inner.Witness.{HasShown}

-- the turns of a report have its race
pub has_shown : (chip : Chip) (most : ℕ) (report : Report) (race : Race) → most < 2 ^ 32
    → report.verdict ≡ verdict.Race race → IsReport chip most report → HasShown chip race
has_shown chip most report race few is made = record {
  turns = report.turns;
  few = omega (arith, few, made.within);
  among = subst (λ v. IfRace v
      (IsAmong chip.cells (steps_seen chip (turns_numbered report.turns)))) is made.shown;
  before = subst (λ v. IfRace v (λ race. race.take.turn < report.turns)) is made.turn;
}

-- the witness of a race is shown if it is asked for
pub witnessed : {A : Type 0} (view : A → List ℕ) (chip : Chip) (loading : Loading) (text : List ℕ)
    (report : Report) (witness : Bool) (v : Verdict) (race : Race) (result : Result A ServeError)
    → witness ≡ true → v ≡ verdict.Race race
    → Answers view (IsWitness loading text chip race) result
    → Answers view (IsShown chip loading text report witness v) result
witnessed view chip loading text report witness v race result wanted is right =
    subst (λ w. Answers view (IsShown chip loading text report w v) result) (sym wanted)
    (subst (λ u. Answers view (IsShown chip loading text report true u) result) (sym is) right)

-- what is shown by a report on an equal chip
pub reported : {A : Type 0} (view : A → List ℕ) (chip start : Chip) (most : ℕ) (loading : Loading)
    (witness : Bool) (text : List ℕ) (report : Report) (result : Result A ServeError)
    → start ≡ chip → IsReport chip most report → (IsReport start most report
    → Answers view (IsShown start loading text report witness report.verdict) result)
    → Answers view (IsJudgedBy chip most loading witness text) result
reported view chip start most loading witness text report result same made shown =
    answers view (IsShown chip loading text report witness report.verdict)
    (IsJudgedBy chip most loading witness text) result (λ answer right. (report, made, right))
    (subst (λ c. Answers view (IsShown c loading text report witness report.verdict) result) same
    (shown (subst (λ c. IsReport c most report) (sym same) made)))
