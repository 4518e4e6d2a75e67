-- Runs one behind the other, and nodes that read one port at a time.
use Rattle.std.specs.Prelude.{◌≡◌, ℕ, List, [], ◌++◌, IsSome, Some, true}
use Rattle.ga_place.specs.Node.{IsNodeName}
use Rattle.ga_place.specs.Side.{one_side}
use Rattle.ga_node.specs.Need.{need_of}
use Rattle.ga_node.specs.declared.need.Need.{Need}
use Rattle.ga_node.specs.declared.need.Need.TheVariants.{Take}
use Rattle.ga_chip.specs.declared.outcome.Try.{Try}
use Rattle.ga_chip.specs.Part.{Part}
use Rattle.ga_chip.specs.Chip.{Chip, part_of, stream_opened}
use Rattle.ga_chip.specs.Laws.{IsPrefix}
use Rattle.ga_chip.specs.Legal.{IsLegal}
use Rattle.ga_chip.specs.Run.{Event, is_open, moves, ran, sides_of, tries_of, words_fed}

-- A run of a legal chip leads to a legal chip.
abbrev pub RunsAreLegal : Type 0
RunsAreLegal = (chip : Chip) (events : List Event) → IsLegal chip → IsLegal (ran chip events)

-- A run and one behind it are one run: it leads to the same chip, has the moves of both, and feeds
-- each stream what both feed it.
pub record Joins (chip : Chip) (events more : List Event) : Type 0 where
  pub leads : ran chip (events ++ more) ≡ ran (ran chip events) more
  pub moves : moves chip (events ++ more) ≡ moves chip events ++ moves (ran chip events) more
  pub fed : (name : ℕ) → words_fed chip (events ++ more) name ≡ words_fed chip events name
      ++ words_fed (ran chip events) more name

abbrev pub RunsJoin : Type 0
RunsJoin = (chip : Chip) (events more : List Event) → IsLegal chip → Joins chip events more

-- Tries behind tries are the tries of both.
abbrev pub TriesJoin : Type 0
TriesJoin = (tries more : List Try) → tries_of (tries ++ more) ≡ tries_of tries ++ tries_of more

-- Tries feed nothing to any stream.
abbrev pub TriesFeedNothing : Type 0
TriesFeedNothing =
    (chip : Chip) (tries : List Try) (name : ℕ) → words_fed chip (tries_of tries) name ≡ []

-- A stream that was opened for a node is open.
abbrev pub OpenedIsOpen : Type 0
OpenedIsOpen =
    (chip : Chip) (name : ℕ) → IsLegal chip → IsNodeName name
    → is_open (stream_opened chip name) name ≡ true

-- a need to take at one side at most
abbrev pub IsOneSided : Need → Type 0
IsOneSided (Take sides) = IsSome (one_side sides)
IsOneSided need = Unit {0}

-- At no moment of a run is the node's need a multiport read.
abbrev pub ReadsOnePort : Chip → List Event → ℕ → Type 0
ReadsOnePort chip events name =
    (before : List Event) (part : Part) → IsPrefix before events
    → part_of (ran chip before) name ≡ Some part → IsOneSided (need_of part.state)

-- So the node makes no multiport read, for which the side of a try would count.
abbrev pub OnePortNamesNoSide : Type 0
OnePortNamesNoSide =
    (chip : Chip) (events : List Event) (name : ℕ) → ReadsOnePort chip events name
    → sides_of chip events name ≡ []
