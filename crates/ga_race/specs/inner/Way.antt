-- How far a way has come: the tries of a run that were Moved, without those that come behind the
-- first step of a node.
use Rattle.std.specs.Prelude.{◌≡◌, ℕ, ◌+◌, ◌==◌, Bool, ◌&&◌, ◌||◌, nat_lt, List, [], ◌∷◌, ◌++◌, Option, Some, None, is_some, option_and_then, if◌then◌else◌}
use Rattle.std.specs.Option.{option_map_or}
use Rattle.ga_place.specs.Cell.{index_of}
use Rattle.ga_chip.specs.declared.outcome.Try as asked
use Rattle.ga_chip.specs.Chip.{Chip}
use Rattle.ga_chip.specs.Legal.{IsLegal}
use Rattle.ga_chip.specs.Run.{Event, Move, happened, move_in, ran, tries_of}
use Rattle.ga_observe.specs.Laws.{events_in}
use Rattle.ga_observe.specs.Seen.{steps_seen}
use Rattle.ga_race.specs.Clocks.{Clocks, clock_of, clocks_on, no_clocks}
use Rattle.ga_race.specs.Shown.{HasSeen, Kept}
use Rattle.ga_race.specs.Watch.{CountsFit}
use Rattle.ga_race.specs.declared.found.Post.{Post}
use Rattle.ga_race.specs.declared.found.Race.{Race}

-- whether a post comes later than a race's take: in a later turn or, in the same turn, from a node
-- that is later in order of name
abbrev pub is_later : Race → Post → Bool
is_later race post =
    nat_lt race.take.turn post.turn || (post.turn == race.take.turn
    && nat_lt (index_of race.take.reader) (index_of race.left_out.writer))

-- the post of the word that a race's take leaves out, if it comes later than the take
abbrev pub later_post : Race → Option Post
later_post race =
    option_and_then (λ post. if is_later race post then Some post else None) race.left_out.post

-- the turn of the later one of take and post
abbrev pub last_turn : Race → ℕ
last_turn race = option_map_or (λ (post : Post). post.turn) (later_post race) race.take.turn

-- how many tries of that turn there are up to the take, or to the end of the turn of the post
abbrev pub last_tries : Race → ℕ
last_tries race =
    if is_some (later_post race) then 144 else index_of race.take.reader + 1

-- an event, if it is a move that doesn't come behind the step of a node that follows its first k
abbrev pub apart_by : ℕ → ℕ → Event → List Move → Clocks → List Event
apart_by name k event [] clocks = []
apart_by name k event (move ∷ rest) clocks =
    if nat_lt k (clock_of move clocks name) then [] else event ∷ []

-- the events of a run that are moves and don't come behind the first step of a node
abbrev pub apart_on : Chip → Clocks → ℕ → List Event → List Event
apart_on chip clocks name [] = []
apart_on chip clocks name (event ∷ events) =
    apart_by name 0 event (move_in chip event) clocks
    ++ apart_on (happened chip event) (clocks_on clocks (move_in chip event)) name events

-- A chip has come to the end of these events, as a watch has seen, and the way has those of them
-- that don't come behind the first step of a node.
pub record IsOnWay (start : Chip) (name : ℕ) (done : List Event) (now : Chip) (watch : Kept)
    (way : List asked.Try) : Type 0 where
  pub legal : IsLegal start
  pub fit : CountsFit start
  pub turns : List (ℕ × Event)
  pub events : events_in turns ≡ done
  pub chip : now ≡ ran start done
  pub cells : watch.start ≡ start.cells
  pub seen : HasSeen watch (steps_seen start turns)
  pub apart : tries_of way ≡ apart_on start no_clocks name done
