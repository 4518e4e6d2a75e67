-- The profiles of replay texts. Profile 2 is the chip. Profile 1 is the chip without extended mode:
-- a node that is about to fetch with bit 9 of P set counts as stopped.
use Rattle.std.specs.Prelude.{ℕ, zero, suc, ◌+◌, Bool, false, ◌&&◌, List, [], codes, get_or, Result, Ok, Err, if◌then◌else◌}
use Rattle.std.specs.Option.{option_map_or}
use Rattle.std.specs.Str.{bytes_eq}
use Rattle.ga_pack.specs.Model.Text.{lines_of}
use Rattle.ga_place.specs.Cell.{name_at}
use Rattle.ga_place.specs.declared.side.Side.{Side}
use Rattle.ga_node.specs.State.{State, is_extended, is_fetch}
use Rattle.ga_chip.specs.declared.outcome.Outcome.{Outcome}
use Rattle.ga_chip.specs.declared.outcome.Outcome.TheVariants as outcome
use Rattle.ga_chip.specs.Chip.{Chip, state_of, tried}
use Rattle.ga_chip.specs.Outcome.{moved_by}
use Rattle.ga_chip.specs.Run.{side_of_turn}
use Rattle.ga_debug.specs.declared.commands.Answer.{Answer}
use Rattle.ga_debug.specs.declared.commands.Answer.TheVariants.{Moved, Tried}
use Rattle.ga_debug.specs.declared.command.Arguments.{Arguments}
use Rattle.ga_debug.specs.declared.error.DebugError.{DebugError}
use Rattle.ga_debug.specs.declared.error.DebugError.TheVariants.{NotHeld}
use Rattle.ga_debug.specs.declared.profile.Profile.{Profile}
use Rattle.ga_debug.specs.declared.profile.Profile.TheVariants.{One, Two}
use Rattle.ga_debug.specs.declared.commands.Action.{Action}
use Rattle.ga_debug.specs.declared.commands.Action.TheVariants.{Pass, Try, Turn}
use Rattle.ga_debug.specs.Commands.{did}

-- sessions, and what is kept of them, are of profile 2
abbrev pub SESSION_PROFILE : Profile
SESSION_PROFILE = Two

-- the first line of a text of a profile
abbrev pub profile_line : Profile → List ℕ
profile_line One = codes "profile 1"
profile_line Two = codes "profile 2"

-- the profile of a text: 1 if its first line is `profile 1`, else 2
unfoldable pub profile_in : List ℕ → Profile
profile_in text = if bytes_eq (get_or (lines_of text) 0 []) (profile_line One) then One else Two

-- a fetch in extended mode is next
abbrev pub is_extended_fetch : State → Bool
is_extended_fetch state = is_fetch state.place && is_extended state.p

-- whether profile 1 stops a node
unfoldable pub is_left_out : Chip → ℕ → Bool
is_left_out chip name = option_map_or is_extended_fetch (state_of chip name) false

-- a try, as profile 1 means it: one of a node that it stops isn't attempted
abbrev pub tried_in_profile_1 : Chip → ℕ → Side → Outcome × Chip
tried_in_profile_1 chip name side =
    if is_left_out chip name then (outcome.Stopped, chip) else tried chip name side

-- tries of a number of nodes in order of name, from an index on, added to a number of steps: the
-- steps and the chip
unfoldable pub tries_in_profile_1 : ℕ → ℕ → Side → ℕ → Chip → ℕ × Chip
tries_in_profile_1 zero index side moved chip = (moved, chip)
tries_in_profile_1 (suc left) index side moved chip =
    let one = tried_in_profile_1 chip (name_at index) side in
    tries_in_profile_1 left (index + 1) side (moved + moved_by one.0) one.1

-- a turn, as profile 1 means it: how many steps it made, and the chip
abbrev pub turn_in_profile_1 : Side → Chip → ℕ × Chip
turn_in_profile_1 side chip = tries_in_profile_1 144 0 side 0 chip

-- a number of turns, of which the first has a number, added to a number of steps
abbrev pub turns_in_profile_1 : ℕ → ℕ → ℕ → Chip → ℕ × Chip
turns_in_profile_1 zero turn moved chip = (moved, chip)
turns_in_profile_1 (suc left) turn moved chip =
    let one = turn_in_profile_1 (side_of_turn turn) chip in
    turns_in_profile_1 left (turn + 1) (moved + one.0) one.1

-- what an action answers in a profile, and the chip afterwards
unfoldable pub did_as : Profile → Action → Arguments → Chip → Result Answer DebugError × Chip
did_as One Pass given chip =
    if is_left_out chip given.node then (Err NotHeld, chip) else did Pass given chip
did_as One Try given chip = (
  Ok (Tried (tried_in_profile_1 chip given.node given.side).0),
  (tried_in_profile_1 chip given.node given.side).1,
)
did_as One Turn given chip = (
  Ok (Moved (turns_in_profile_1 given.count 0 0 chip).0),
  (turns_in_profile_1 given.count 0 0 chip).1,
)
did_as _ action given chip = did action given chip
