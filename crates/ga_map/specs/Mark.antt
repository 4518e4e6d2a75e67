-- What a node does, as a mark.
use Rattle.std.specs.Prelude.{ℕ, ◌==◌, Bool, true, false, ◌&&◌, ◌||◌, not, List, codes, is_none, is_some, if◌then◌else◌}
use Rattle.std.specs.Option.{option_map_or}
use Rattle.ga_place.specs.Side.{has_side, is_among}
use Rattle.ga_place.specs.declared.side.Side.{Side}
use Rattle.ga_place.specs.declared.side.Side.TheVariants.{Right, Down, Left, Up}
use Rattle.ga_place.specs.declared.side.Sides.{Sides}
use Rattle.ga_node.specs.Need.{need_of}
use Rattle.ga_node.specs.State.{State}
use Rattle.ga_node.specs.declared.need.Need.{Need}
use Rattle.ga_node.specs.declared.need.Need.TheVariants as need
use Rattle.ga_chip.specs.Chip.{Chip, state_of}
use Rattle.ga_chip.specs.Run.{stands_held}
use Rattle.ga_chip.specs.Stream.{left_of}
use Rattle.ga_waits.specs.Begun.{has_begun}
use Rattle.ga_waits.specs.Folded.{is_idle}
use Rattle.ga_trace.specs.Rest.{spins}
use Rattle.ga_map.specs.declared.mark.Mark.{Mark}
use Rattle.ga_map.specs.declared.mark.Mark.TheVariants as mark
use Rattle.ga_map.specs.Posted.{offered, posted}

-- a side is one of these, and a word is pending for a node there
abbrev pub takes_at : Chip → ℕ → Sides → Side → Bool
takes_at chip name sides side = is_among side sides && is_some (offered chip name side)

abbrev pub takes_one : Chip → ℕ → Sides → Bool
takes_one chip name sides =
    takes_at chip name sides Right || takes_at chip name sides Down
    || takes_at chip name sides Left || takes_at chip name sides Up

-- Whether a try moves a node of this need that isn't held: a word is pending for it; or it posts at
-- a side with a neighbour; or its word was read; or a word of its stream is left.
abbrev pub goes_on : Chip → ℕ → Need → Bool
goes_on chip name need.Own = true
goes_on chip name (need.Take sides) = takes_one chip name sides
goes_on chip name (need.Post side word) = has_side name side
goes_on chip name (need.Check side) = is_none (posted chip name side)
goes_on chip name need.Input = not (left_of chip name == 0)
goes_on chip name (need.Stopped stop) = false

-- what a node of this need does that no try moves
abbrev pub waiting : Need → Mark
waiting need.Own = mark.Works
waiting (need.Take sides) = mark.AwaitsWord
waiting need.Input = mark.AwaitsWord
waiting (need.Post side word) = mark.AwaitsReader
waiting (need.Check side) = mark.AwaitsReader
waiting (need.Stopped stop) = mark.Stopped

-- what a node does in a state
abbrev pub mark_in : Chip → ℕ → State → Mark
mark_in chip name state =
    if not (has_begun name state) then mark.NotStarted
    else if stands_held chip name then mark.Held
    else if spins chip name then mark.Spins
    else if goes_on chip name (need_of state) then mark.Works
    else if is_idle chip name then mark.Idle
    else waiting (need_of state)

abbrev pub mark_of : Chip → ℕ → Mark
mark_of chip name = option_map_or (mark_in chip name) (state_of chip name) mark.NotStarted

-- a mark as three characters
abbrev pub mark_text : Mark → List ℕ
mark_text mark.NotStarted = codes " . "
mark_text mark.Held = codes "[=]"
mark_text mark.Works = codes "[#]"
mark_text mark.Spins = codes "[~]"
mark_text mark.Idle = codes "[ ]"
mark_text mark.AwaitsWord = codes "[?]"
mark_text mark.AwaitsReader = codes "[!]"
mark_text mark.Stopped = codes "[x]"

-- a node waits for a word, or for its word to be read
abbrev pub is_waiting : Mark → Bool
is_waiting mark.AwaitsWord = true
is_waiting mark.AwaitsReader = true
is_waiting _ = false
