-- What the watch over some tries shows of all runs.
use Rattle.std.proofs.Common.{◌≡◌, ◌∙◌, ap, sym, refl, subst, ℕ, ◌+◌, Bool, true, false, List, [], ◌∷◌}
use Rattle.std.specs.List.{enumerate_from}
use Rattle.ga_chip.specs.declared.outcome.Try.{Try}
use Rattle.ga_chip.specs.Chip.{Chip}
use Rattle.ga_chip.specs.Legal.{IsLegal}
use Rattle.ga_chip.specs.Run.{Event, tries_of}
use Rattle.ga_observe.specs.Laws.{events_in}
use Rattle.ga_observe.specs.Seen.{steps_seen}
use Rattle.ga_observe.specs.declared.step.Step.{Step}
use Rattle.ga_race.specs.Decides.{WatchFindsRaces}
use Rattle.ga_race.specs.Differs.{HasRace, RaceDiffers, TriesDiffer}
use Rattle.ga_race.specs.Races.{HasNoRace}
use Rattle.ga_race.specs.Shown.{HasSeen, Kept}
use Rattle.ga_race.specs.Watch.{AreCounted, CountsFit, StepsAreCounted, WatchFinds, finds_race, first_watch, watch_on}
use Rattle.ga_law_examples.specs.Races.{CanGoTwoWays}

-- the events of tries, each with its index
abbrev pub numbered_tries : List Try → List (ℕ × Event)
numbered_tries tries = enumerate_from 0 (tries_of tries)

numbers_left : (from : ℕ) (events : List Event) → events_in (enumerate_from from events) ≡ events
numbers_left from [] = refl
numbers_left from (event ∷ events) = ap (λ es. event ∷ es) (numbers_left (from + 1) events)

-- what a watch that has seen the steps of tries says of them
pub said : (chip : Chip) (tries : List Try) (kept : Kept) (found : Bool) → StepsAreCounted
    → IsLegal chip → CountsFit chip → kept.start ≡ chip.cells
    → ((steps : List Step) → HasSeen kept steps → AreCounted steps
    → found ≡ (watch_on (first_watch kept.start) steps).race)
    → HasSeen kept (steps_seen chip (numbered_tries tries))
    → found ≡ finds_race chip (numbered_tries tries)
said chip tries kept found counted legal fit start says seen =
    let steps = steps_seen chip (numbered_tries tries) in
    says steps seen (counted chip (numbered_tries tries) legal fit)
    ∙ ap (λ cells. (watch_on (first_watch cells) steps).race) start

pub no_race_in : (chip : Chip) (tries : List Try) (found : Bool) → WatchFinds → IsLegal chip
    → found ≡ finds_race chip (numbered_tries tries) → found ≡ false
    → HasNoRace chip (tries_of tries)
no_race_in chip tries found finds legal says none =
    subst (HasNoRace chip) (numbers_left 0 (tries_of tries))
    ((finds chip (numbered_tries tries) legal).0 (sym says ∙ none))

pub race_in : (chip : Chip) (tries : List Try) (found : Bool) → WatchFindsRaces → RaceDiffers
    → TriesDiffer → IsLegal chip → found ≡ finds_race chip (numbered_tries tries) → found ≡ true
    → CanGoTwoWays chip tries
race_in chip tries found races differs both legal says is =
    let race : HasRace chip (tries_of tries) =
    subst (HasRace chip) (numbers_left 0 (tries_of tries))
    (races chip (numbered_tries tries) legal (sym says ∙ is)) in
    let two = (differs chip (tries_of tries) legal race).0 in
    let way = both chip tries race two in
    record { race = race; two = two; way = way.0; way_is = way.1 }
