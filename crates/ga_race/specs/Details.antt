-- The details of a race that is shown: those of a race of the run.
use Rattle.std.specs.Prelude.{◌≡◌, ◌⊎◌, ℕ, List, Some}
use Rattle.ga_place.specs.Side.{neighbour_of}
use Rattle.ga_node.specs.Need.{need_of}
use Rattle.ga_node.specs.declared.need.Need.TheVariants as need
use Rattle.ga_chip.specs.Chip.{Chip, pending}
use Rattle.ga_chip.specs.Legal.{IsLegal}
use Rattle.ga_chip.specs.Run.{Event, ran}
use Rattle.ga_observe.specs.Laws.{events_in}
use Rattle.ga_observe.specs.Seen.{steps_seen}
use Rattle.ga_race.specs.Differs.{HasRace, PostsApart}
use Rattle.ga_race.specs.Found.{IsAmong}
use Rattle.ga_race.specs.declared.found.Race.{Race}

-- the word that a take leaves out: it is pending before the take, or posted apart from it
abbrev pub ComesWith : (chip : Chip) (before : List Event) (event : Event) (later : List Event)
    (name cell word : ℕ) → Type 0
ComesWith chip before event later name cell word =
    (pending (ran chip before) cell ≡ Some word)
    ⊎ ((apart : PostsApart chip before event later name cell) × (apart.posts.word ≡ word))

-- What is shown of a race is so: its take, with the word taken and that word's writer, and the word
-- that the take leaves out, with its writer.
pub record IsRaceOf (chip : Chip) (events : List Event) (found : HasRace chip events)
    (race : Race) : Type 0 where
  -- the node that takes, as it is before
  pub reader : race.take.reader ≡ found.name
  pub number : race.take.number ≡ found.leaves.part.state.steps
  pub place : race.take.place ≡ found.leaves.part.state.place
  pub p : race.take.p ≡ found.leaves.part.state.p
  pub sides : need_of found.leaves.part.state ≡ need.Take race.take.sides
  -- the word that it takes
  pub taken : race.take.taken.side ≡ found.leaves.taken
  pub word : found.leaves.move.found ≡ Some race.take.taken.word
  pub writer : neighbour_of found.name race.take.taken.side ≡ Some race.take.taken.writer
  -- the other word
  pub left_out : race.left_out.side ≡ found.leaves.left_out
  pub comes : ComesWith chip found.before found.event found.later found.name found.cell
      race.left_out.word
  pub other_writer : neighbour_of found.name race.left_out.side ≡ Some race.left_out.writer

-- A race among the steps of a run, as a watch keeps it, is one of the run.
abbrev pub WatchShows : Type 0
WatchShows =
    (chip : Chip) (events : List (ℕ × Event)) (race : Race) → IsLegal chip
    → IsAmong chip.cells (steps_seen chip events) race
    → (found : HasRace chip (events_in events)) × IsRaceOf chip (events_in events) found race
