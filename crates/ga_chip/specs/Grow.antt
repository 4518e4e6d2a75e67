-- The numbers of the cells, and the words of streams, over a run.
use Rattle.std.specs.Prelude.{◌≡◌, ◌++◌, ℕ, ◌+◌, List, length, Some}
use Rattle.ga_place.specs.Cell.{cell_of}
use Rattle.ga_place.specs.declared.side.Side.{Side}
use Rattle.ga_chip.specs.Chip.{Chip, part_of}
use Rattle.ga_chip.specs.Ledger.{ledger_of}
use Rattle.ga_chip.specs.Legal.{IsLegal}
use Rattle.ga_chip.specs.Part.{Part}
use Rattle.ga_chip.specs.Run.{Event, input_words, ran, taken_words, words_fed, words_left, written_words}

-- Each ledger has grown over a run of a chip, which led to another, by the words written and those
-- taken.
pub record LedgersGrow (chip next : Chip) (events : List Event) : Type 0 where
  pub written : (name cell : ℕ) (side : Side) → cell_of name side ≡ Some cell
      → (ledger_of next name side).written ≡ (ledger_of chip name side).written
      + length (written_words chip events cell)
  pub read : (name cell : ℕ) (side : Side) → cell_of name side ≡ Some cell
      → (ledger_of next name side).read ≡ (ledger_of chip name side).read
      + length (taken_words chip events cell)

-- So they grow over every run of a legal chip, with tries, breakpoints and pieces of streams in any
-- order.
abbrev pub Growing : Type 0
Growing =
    (chip : Chip) (events : List Event) → IsLegal chip → LedgersGrow chip (ran chip events) events

-- The words that a node's stream had and is fed in a run of a legal chip are those that the node
-- takes of it and those that are left.
abbrev pub StreamsGo : Type 0
StreamsGo = (chip : Chip) (events : List Event) (name : ℕ) (part now : Part) → IsLegal chip
    → part_of chip name ≡ Some part → part_of (ran chip events) name ≡ Some now
    → words_left part.stream ++ words_fed chip events name ≡ input_words chip events name
    ++ words_left now.stream
