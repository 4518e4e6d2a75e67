-- Runs without races, and what one such run shows of all others.
use Rattle.std.specs.Prelude.{◌≡◌, ◌≢◌, ℕ, ◌≤◌, true, List, [], ◌∷◌, ◌++◌, Some, None}
use Rattle.ga_place.specs.Cell.{read_cell}
use Rattle.ga_place.specs.declared.side.Side.{Side}
use Rattle.ga_node.specs.Need.{need_of, takes_at}
use Rattle.ga_chip.specs.declared.outcome.Outcome.TheVariants.{Held, Moved}
use Rattle.ga_chip.specs.Part.{Part, Post}
use Rattle.ga_chip.specs.Chip.{Chip, part_of, pending, tried}
use Rattle.ga_chip.specs.Run.{Event, Move, move_in, moves_of, ran, sides_of, words_fed}
use Rattle.ga_chip.specs.Laws.{Agree, AgreesWith, IsPrefix}
use Rattle.ga_chip.specs.Legal.{IsLegal}
use Rattle.ga_race.specs.Clocks.{clocks, steps_in}

-- A multiport take: by this event a node takes a word at one of several sides, and leaves out
-- another of them, at which it would read this cell.
pub record LeavesOut (chip : Chip) (event : Event) (name cell : ℕ) : Type 0 where
  pub part : Part
  pub there : part_of chip name ≡ Some part
  pub move : Move
  pub made : moves_of name (move_in chip event) ≡ move ∷ []
  pub taken : Side
  pub picked : move.picked ≡ taken ∷ []
  pub left_out : Side
  pub apart : left_out ≡ taken → ⊥
  pub among : takes_at left_out (need_of part.state) ≡ true
  pub reads : read_cell name left_out ≡ Some cell

-- By an event a word is posted into a cell.
pub record Posts (chip : Chip) (event : Event) (cell : ℕ) : Type 0 where
  pub move : Move
  pub made : move_in chip event ≡ move ∷ []
  pub side : Side
  pub word : ℕ
  pub asked : move.asked ≡ Post side cell word

-- The cell that a take leaves out is no race: no word is pending there, and each later post there
-- comes after the take by causes, so that the post's clock counts the take among the steps of the
-- node that made it.
pub record IsOrdered (chip : Chip) (before : List Event) (event : Event) (later : List Event)
    (name cell : ℕ) : Type 0 where
  pub empty : pending (ran chip before) cell ≡ None
  pub comes_after : (mid rest : List Event) (post : Event) → later ≡ mid ++ post ∷ rest
      → Posts (ran chip (before ++ event ∷ mid)) post cell
      → steps_in chip (before ++ event ∷ []) name
      ≤ (clocks chip ((before ++ event ∷ mid) ++ post ∷ [])).posts cell name

-- A run without races.
abbrev pub HasNoRace : Chip → List Event → Type 0
HasNoRace chip events =
    (before later : List Event) (event : Event) (name cell : ℕ)
    → events ≡ before ++ event ∷ later → LeavesOut (ran chip before) event name cell
    → IsOrdered chip before event later name cell

-- In a run no node makes more steps than its bound, and each stream is fed a prefix of these words.
pub record StaysWithin (chip : Chip) (events : List Event) (bound : ℕ → ℕ)
    (words : ℕ → List ℕ) : Type 0 where
  pub steps : (name : ℕ) → steps_in chip events name ≤ bound name
  pub fed : (name : ℕ) → IsPrefix (words_fed chip events name) (words name)

-- Two runs of a chip agree on their common steps, and their multiport takes name the same sides.
pub record RunsAgree (chip : Chip) (one two : List Event) : Type 0 where
  pub sides : (name : ℕ) → AgreesWith (sides_of chip one name) (sides_of chip two name)
  pub agree : Agree chip chip one two

-- A chip is determinate within bounds: any two runs within them agree.
abbrev pub IsDeterminateWithin : Chip → (ℕ → ℕ) → (ℕ → List ℕ) → Type 0
IsDeterminateWithin chip bound words =
    (one two : List Event) → StaysWithin chip one bound words → StaysWithin chip two bound words
    → RunsAgree chip one two

-- If a run has no race, the chip is determinate as far as this run: any other run agrees with it,
-- whatever the order of its tries and wherever it uses breakpoints, if no node makes more steps
-- than in this one.
abbrev pub NoRace : Type 0
NoRace =
    (chip : Chip) (events : List Event) → IsLegal chip → HasNoRace chip events
    → IsDeterminateWithin chip (steps_in chip events) (words_fed chip events)

-- a chip at rest: no try would be moved, and no node is held by a breakpoint
abbrev pub IsAtRest : Chip → Type 0
IsAtRest chip =
    (name : ℕ) (side : Side) → ((tried chip name side).0 ≢ Moved)
    × ((tried chip name side).0 ≢ Held)

-- each stream is fed a prefix of these words in a run
abbrev pub IsFed : Chip → List Event → (ℕ → List ℕ) → Type 0
IsFed chip events words = (name : ℕ) → IsPrefix (words_fed chip events name) (words name)

-- A chip is determinate: any two runs agree.
abbrev pub IsDeterminate : Chip → (ℕ → List ℕ) → Type 0
IsDeterminate chip words =
    (one two : List Event) → IsFed chip one words → IsFed chip two words → RunsAgree chip one two

-- If the run ends at rest, this is so without bounds: any two runs agree, and no node makes more
-- steps in another run than in this one.
abbrev pub NoRaceAtRest : Type 0
NoRaceAtRest =
    (chip : Chip) (events : List Event) → IsLegal chip → HasNoRace chip events
    → IsAtRest (ran chip events)
    → IsDeterminate chip (words_fed chip events)
    × ((others : List Event) → IsFed chip others (words_fed chip events) → (name : ℕ)
    → steps_in chip others name ≤ steps_in chip events name)

-- A run has no race if no node makes a multiport take in it.
abbrev pub NoChoiceNoRace : Type 0
NoChoiceNoRace =
    (chip : Chip) (events : List Event) → ((name : ℕ) → sides_of chip events name ≡ [])
    → HasNoRace chip events
