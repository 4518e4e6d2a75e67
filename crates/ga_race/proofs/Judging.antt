-- The verdict after some turns is so.
use Rattle.std.proofs.Common.{◌≡◌, ◌∙◌, ◌+◌, ◌<◌, ℕ, false, List, Option, Some, None, ap, refl, subst, sym}
use Rattle.std.specs.Prelude.{is_some}
use Rattle.ga_chip.specs.Chip.{Chip}
use Rattle.ga_chip.specs.Run.{Event, ran, turns_of, words_fed}
use Rattle.ga_chip.specs.Legal.{IsLegal}
use Rattle.ga_chip.proofs.Kept.{legal_ran}
use Rattle.ga_observe.specs.Laws.{events_in}
use Rattle.ga_observe.specs.Seen.{steps_seen, turns_numbered}
use Rattle.ga_observe.proofs.Watched.{plain_turns}
use Rattle.ga_race.specs.Clocks.{steps_in}
use Rattle.ga_race.specs.Found.{IsAmong}
use Rattle.ga_race.specs.Races.{HasNoRace, IsDeterminateWithin}
use Rattle.ga_race.specs.Shown.{HasSeen, Kept}
use Rattle.ga_race.specs.Verdict.{IfRace, AgreesFor, IsSo}
use Rattle.ga_race.specs.Watch.{CountsFit, finds_race, first_watch, watch_on}
use Rattle.ga_race.specs.declared.found.Race.{Race}
use Rattle.ga_race.specs.declared.verdict.Verdict.{Verdict}
use Rattle.ga_race.specs.declared.verdict.Verdict.TheVariants as verdict
use Rattle.ga_race.specs.Rounds.{HasNoBreaks}
use Rattle.ga_race.specs.inner.Ending.{IfRound, IsFound, MadeTwice}
use Rattle.ga_race.proofs.Beginning.{take_within}
use Rattle.ga_race.proofs.Deciding.{quiet_within}
use Rattle.ga_race.proofs.Differs.{race_differs}
use Rattle.ga_race.proofs.EndingAll.{all_names}
use Rattle.ga_race.proofs.Fair.{breaks_kept}
use Rattle.ga_race.proofs.Finding.{race_found, race_shown}
use Rattle.ga_race.proofs.Fitting.{steps_are_counted}
use Rattle.ga_race.proofs.Following.{finds_same}
use Rattle.ga_race.proofs.Rounds.{turns_front}
use Rattle.ga_race.proofs.Spinning.{no_race_spinning}
use Rattle.ga_race.proofs.TurnLists.{turns_tries}
use Rattle.ga_race.proofs.Watching.{finds_all}

-- what a watch keeps is whether its run has a race
pub kept_finds : (chip : Chip) (turns : ℕ) (kept : Kept) → IsLegal chip → CountsFit chip
    → kept.start ≡ chip.cells → HasSeen kept (steps_seen chip (turns_numbered turns))
    → is_some kept.race ≡ finds_race chip (turns_numbered turns)
kept_finds chip turns kept legal fits start seen =
    (seen (steps_are_counted chip (turns_numbered turns) legal fits)).shows.race
    ∙ ap (λ cells. (watch_on (first_watch cells) (steps_seen chip (turns_numbered turns))).race)
    start

-- and a race that it keeps is one of the run's steps
pub kept_race : (chip : Chip) (turns : ℕ) (kept : Kept) → IsLegal chip → CountsFit chip
    → kept.start ≡ chip.cells → HasSeen kept (steps_seen chip (turns_numbered turns))
    → (race : Race) → kept.race ≡ Some race
    → IsAmong chip.cells (steps_seen chip (turns_numbered turns)) race
kept_race chip turns kept legal fits start seen race is =
    subst (λ cells. IsAmong cells (steps_seen chip (turns_numbered turns)) race) start
    ((seen (steps_are_counted chip (turns_numbered turns) legal fits)).recalls.race race is)

-- a watch without a race keeps none
pub none_kept : (race : Option Race) → is_some race ≡ false → race ≡ None
none_kept None e = refl
none_kept (Some race) e = cc

-- without a race two runs agree for these turns
pub agrees_for : (chip : Chip) (turns : ℕ) → IsLegal chip
    → finds_race chip (turns_numbered turns) ≡ false → AgreesFor chip turns
agrees_for chip turns legal quiet =
    subst (λ (events : List Event). IsDeterminateWithin chip (steps_in chip events)
    (words_fed chip events)) (plain_turns turns)
    (quiet_within chip (turns_numbered turns) legal quiet)

no_race_in : (chip : Chip) (turns : ℕ) → IsLegal chip
    → finds_race chip (turns_numbered turns) ≡ false → HasNoRace chip (turns_of turns)
no_race_in chip turns legal quiet =
    subst (HasNoRace chip) (plain_turns turns)
    (finds_all chip (events_in (turns_numbered turns)) legal
    (sym (finds_same chip (turns_numbered turns) legal) ∙ quiet))

-- what is true for the turns of a round implies another thing
pub if_round : (v : Option Verdict) (one two : ℕ → Type 0)
    → ((period : ℕ) → one period → two period) → IfRound v one → IfRound v two
if_round (Some (verdict.Round period)) one two implies holds = implies period holds
if_round (Some (verdict.Race race)) one two implies holds = tt
if_round (Some (verdict.AtRest spins)) one two implies holds = tt
if_round (Some verdict.Open) one two implies holds = tt
if_round None one two implies holds = tt

-- what is found after some turns is so
pub found_so : (chip : Chip) (turns : ℕ) (race : Option Race) (v : Verdict) → IsLegal chip
    → is_some race ≡ finds_race chip (turns_numbered turns)
    → ((one : Race) → race ≡ Some one
    → IsAmong chip.cells (steps_seen chip (turns_numbered turns)) one)
    → IsFound race (ran chip (turns_of turns)) (Some v)
    → (HasNoBreaks chip → IfRound (Some v) (MadeTwice chip turns)) → IsSo chip turns v
found_so chip turns race (verdict.Race details) legal is among found made =
    let one = race_shown chip turns details legal (among details found) in
    (one.0, one.1, (race_differs chip (turns_of turns) legal one.0).0)
found_so chip turns race (verdict.AtRest spins) legal is among found made =
    let quiet = sym is ∙ ap is_some found.0 in (
      agrees_for chip turns legal quiet,
      λ free.
          let shown = found.1 (breaks_kept chip (turns_of turns) (turns_tries turns) legal free) in
          let rest = all_names (ran chip (turns_of turns)) spins
          (legal_ran chip (turns_of turns) legal) shown in
          let all = no_race_spinning chip (turns_of turns) legal
          (no_race_in chip turns legal quiet) rest in
          record { shown = shown; rest = rest; determinate = all.0; most = all.1 },
    )
found_so chip turns race (verdict.Round period) legal is among found made =
    let quiet = sym is ∙ ap is_some found in (
      agrees_for chip turns legal quiet,
      λ free. let twice = made free in record {
        first = twice.first;
        twice = twice.twice;
        round = record {
          back = twice.back;
          race = turns_front chip (twice.first + period + period) turns twice.twice
              (no_race_in chip turns legal quiet);
        };
      },
    )
found_so chip turns race verdict.Open legal is among found made =
    agrees_for chip turns legal (sym is ∙ ap is_some found)

-- a race that is found is one that the watch keeps
pub if_race : (race : Option Race) (now : Chip) (v : Verdict) (holds : Race → Type 0)
    → ((one : Race) → race ≡ Some one → holds one) → IsFound race now (Some v) → IfRace v holds
if_race race now (verdict.Race details) holds kept found = kept details found
if_race race now (verdict.AtRest spins) holds kept found = tt
if_race race now (verdict.Round period) holds kept found = tt
if_race race now verdict.Open holds kept found = tt

-- its take is in one of the turns
pub take_turn : (chip : Chip) (turns : ℕ) (v : Verdict) → IsLegal chip
    → IfRace v (IsAmong chip.cells (steps_seen chip (turns_numbered turns)))
    → IfRace v (λ race. race.take.turn < turns)
take_turn chip turns (verdict.Race race) legal among =
    take_within chip turns race legal
    (race_found chip (turns_numbered turns) race legal among)
take_turn chip turns (verdict.AtRest spins) legal among = tt
take_turn chip turns (verdict.Round period) legal among = tt
take_turn chip turns verdict.Open legal among = tt
