-- Turns until a value of a node changes.
use Rattle.std.specs.Prelude.{◌≡◌, ◌<◌, ℕ, zero, suc, ◌==◌, Bool, true, false, ◌&&◌, not, List, ◌++◌, codes, Option, Some, None, if◌then◌else◌}
use Rattle.std.specs.Fmt.{decimal}
use Rattle.std.specs.Option.{option_map_or}
use Rattle.ga_asm.specs.Image.{ImageView}
use Rattle.ga_chip.specs.Chip.{Chip}
use Rattle.ga_place.specs.Side.{side_bit}
use Rattle.ga_place.specs.declared.side.Side.{Side}
use Rattle.ga_observe.specs.declared.step.Deed.{Deed}
use Rattle.ga_observe.specs.declared.step.Deed.TheVariants.{Posted}
use Rattle.ga_observe.specs.declared.step.Step.{Step}
use Rattle.ga_trace.specs.declared.what.Value.{Value}
use Rattle.ga_trace.specs.declared.what.Value.TheVariants.{Word}
use Rattle.ga_trace.specs.declared.what.What.{What}
use Rattle.ga_trace.specs.declared.what.What.TheVariants.{Pending}
use Rattle.ga_trace.specs.Stepped.{rest_line}
use Rattle.ga_trace.specs.Traced.{behind, moved_in, quiet_after, step_in, turn_line, turned}
use Rattle.ga_trace.specs.What.{same_value, value_of, value_text}

-- the word that a deed posts at a side
abbrev pub posted_at : Side → Deed → Option ℕ
posted_at side (Posted at word) = if side_bit at == side_bit side then Some word else None
posted_at side deed = None

-- What a turn shows: the value behind it; but of a side the word that the node posted there in this
-- turn, even if it was read in it.
abbrev pub value_in_turn : What → Option Step → Value → Value
value_in_turn (Pending side) (Some step) value =
    option_map_or Word (posted_at side step.deed) value
value_in_turn what step value = value

-- a value changes, or it becomes the one that is waited for
abbrev pub changes_to : Option Value → Value → Value → Bool
changes_to None old new = not (same_value old new)
changes_to (Some goal) old new = same_value goal new && not (same_value goal old)

-- the change, and behind how many turns it came
abbrev pub change_line : Value → Value → ℕ → List ℕ
change_line old new turns =
    value_text old ++ codes " -> " ++ value_text new
    ++ codes " after " ++ decimal turns ++ codes " turns\n"

-- no change: why the node makes no step
abbrev pub no_change_line : ℕ → Chip → List ℕ
no_change_line name chip = codes "not reached, " ++ rest_line name chip

-- In at most `left` turns, behind a number of turns, the last of which were quiet: the line of the
-- node's step in the turn that changes the value, if it makes one, and the change. The chip
-- afterwards.
unfoldable pub watched_from : List (ℕ × ImageView) → ℕ → What → Option Value → ℕ → ℕ → ℕ → Chip
    → List ℕ × Chip
watched_from images name what goal zero turn quiet chip = (no_change_line name chip, chip)
watched_from images name what goal (suc left) turn quiet chip =
    let next = turned turn chip in
    let old = value_of what name chip in
    let new = value_in_turn what (step_in name turn chip) (value_of what name next) in
    if quiet == 4 then (no_change_line name chip, chip)
    else if changes_to goal old new
    then (turn_line images name turn chip ++ change_line old new (suc turn), next)
    else watched_from images name what goal left (suc turn) (quiet_after quiet (moved_in turn chip))
    next

-- at most 1,000,000 turns are made
unfoldable pub watched : List (ℕ × ImageView) → ℕ → What → Option Value → Chip → List ℕ × Chip
watched images name what goal chip = watched_from images name what goal 1000000 0 0 chip

-- ---- the first change

-- what is watched, in front of the turn of a number, and as that turn shows it
abbrev pub value_before : ℕ → What → Chip → ℕ → Value
value_before name what chip turn = value_of what name (behind chip turn)

abbrev pub value_shown : ℕ → What → Chip → ℕ → Value
value_shown name what chip turn =
    value_in_turn what (step_in name turn (behind chip turn))
    (value_of what name (behind chip (suc turn)))

abbrev pub changes_in : ℕ → What → Option Value → Chip → ℕ → Bool
changes_in name what goal chip turn =
    changes_to goal (value_before name what chip turn) (value_shown name what chip turn)

-- The turn of a number is the first of this many that changes the value.
pub record IsFirst (most name : ℕ) (what : What) (goal : Option Value) (chip : Chip) (turn : ℕ)
    : Type 0 where
  pub within : turn < most
  pub changes : changes_in name what goal chip turn ≡ true
  pub before : (other : ℕ) → other < turn → changes_in name what goal chip other ≡ false

-- the line of the node's step in that turn, if it makes one, and the change; the chip behind it
abbrev pub change_shown : List (ℕ × ImageView) → ℕ → What → Chip → ℕ → List ℕ × Chip
change_shown images name what chip turn = (
  turn_line images name turn (behind chip turn)
      ++ change_line (value_before name what chip turn) (value_shown name what chip turn)
      (suc turn),
  behind chip (suc turn),
)
