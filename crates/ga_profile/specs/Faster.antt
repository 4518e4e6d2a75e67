-- How long a run would be if a node were twice as fast: it makes its own steps two a turn. It is
-- tried more often for that, and no more, so these are other tries of the same chip.
use Rattle.std.specs.Prelude.{◌≡◌, ◌<◌, ℕ, zero, suc, ◌+◌, ◌-◌, Bool, true, false, ◌&&◌, List, get_or, map, nat_le, nat_lt, Option, Some, None, if◌then◌else◌}
use Rattle.std.specs.List.{list_all, range_with_len}
use Rattle.std.specs.Option.{option_map_or}
use Rattle.ga_place.specs.Cell.{name_at}
use Rattle.ga_node.specs.Need.{is_own, need_of}
use Rattle.ga_chip.specs.declared.outcome.Try as asked
use Rattle.ga_chip.specs.Chip.{Chip, state_of, tried}
use Rattle.ga_chip.specs.Run.{ran, side_of_turn, tries_of, turns_of}
use Rattle.ga_trace.specs.Traced.{turned}
use Rattle.ga_profile.specs.declared.node_turns.NodeTurns.{NodeTurns}
use Rattle.ga_profile.specs.declared.window.Window.{Window}
use Rattle.ga_profile.specs.NodeTurns.{NO_TURNS}

-- ---- a turn

-- the next step of a node is its own
abbrev pub works_alone : Chip → ℕ → Bool
works_alone chip name = option_map_or (λ state. is_own (need_of state)) (state_of chip name) false

-- A turn in which a node is twice as fast: behind it the node is tried once more, if its next step
-- was its own before the turn, and is so behind it.
abbrev pub faster_turned : ℕ → ℕ → Chip → Chip
faster_turned name number chip =
    if works_alone chip name && works_alone (turned number chip) name
    then (tried (turned number chip) name (side_of_turn number)).1 else turned number chip

-- ---- the work of a run

abbrev pub steps_of : Chip → ℕ → ℕ
steps_of chip name = option_map_or (λ state. state.steps) (state_of chip name) 0

-- The goal of a node is what it has done when a run is over: how many steps it has made by then,
-- those of spins aside. So it is by the chip at the end, and by what the node did in all turns.
abbrev pub goal_of : Chip → ℕ → NodeTurns → ℕ
goal_of chip name turns = steps_of chip name - turns.counts.spins

-- and each node
unfoldable pub goals_of : Chip → List NodeTurns → List ℕ
goals_of chip nodes =
    map (λ index. goal_of chip (name_at index) (get_or nodes index NO_TURNS))
    (range_with_len 0 144)

-- a node has done it
abbrev pub has_done : ℕ → Chip → ℕ → Bool
has_done goal chip name = nat_le goal (steps_of chip name)

-- and each node
unfoldable pub have_done : List ℕ → Chip → Bool
have_done goals chip =
    list_all (λ index. has_done (get_or goals index 0) chip (name_at index))
    (range_with_len 0 144)

-- ---- the run

-- How many turns in which a node is twice as fast, from the turn of a number on, lead to where each
-- node has done its work. Some turns are made, and there are at most `left` more.
unfoldable pub turns_if_faster : ℕ → ℕ → ℕ → ℕ → List ℕ → Chip → Option ℕ
turns_if_faster zero made first name goals chip =
    if have_done goals chip then Some made else None
turns_if_faster (suc left) made first name goals chip =
    if have_done goals chip then Some made
    else turns_if_faster left (suc made) first name goals (faster_turned name (first + made) chip)

-- the chip at the beginning of a window
abbrev pub chip_before : Window → Chip → Chip
chip_before window chip = ran chip (turns_of window.first)

-- How many turns a window would have if a node were twice as fast in it; none, unless they are
-- fewer than it has.
abbrev pub shorter_window : Window → ℕ → List ℕ → Chip → Option ℕ
shorter_window window name goals chip =
    if nat_lt window.first window.end
    then turns_if_faster (window.end - window.first - 1) 0 window.first name goals
    (chip_before window chip)
    else None

-- ---- laws

-- the chip behind some turns in which a node is twice as fast, from the turn of a number on
abbrev pub faster_run : ℕ → ℕ → ℕ → Chip → Chip
faster_run name first zero chip = chip
faster_run name first (suc count) chip =
    faster_turned name (first + count) (faster_run name first count chip)

-- They are tries of the chip.
abbrev pub FasterIsTries : Type 0
FasterIsTries =
    (name first count : ℕ) (chip : Chip)
    → (tries : List asked.Try) × (faster_run name first count chip ≡ ran chip (tries_of tries))

-- whether each node has done its work behind some turns in which a node is twice as fast
abbrev pub is_over : Window → ℕ → List ℕ → Chip → ℕ → Bool
is_over window name goals chip turns =
    have_done goals (faster_run name window.first turns (chip_before window chip))

-- A length that is shown is that of the fewest turns behind which each node has done its work, and
-- they are fewer than those of the window.
pub record IsFewest (window : Window) (name : ℕ) (goals : List ℕ) (chip : Chip) (turns : ℕ)
    : Type 0 where
  pub over : is_over window name goals chip turns ≡ true
  pub first : (fewer : ℕ) → fewer < turns → is_over window name goals chip fewer ≡ false
  pub fewer : turns < window.end - window.first

abbrev pub ShorterIsFewest : Type 0
ShorterIsFewest =
    (window : Window) (name : ℕ) (goals : List ℕ) (chip : Chip) (turns : ℕ)
    → shorter_window window name goals chip ≡ Some turns → IsFewest window name goals chip turns

-- If none is shown, no fewer turns than those of the window do.
abbrev pub NoneIsShorter : Type 0
NoneIsShorter =
    (window : Window) (name : ℕ) (goals : List ℕ) (chip : Chip) (fewer : ℕ)
    → shorter_window window name goals chip ≡ None → fewer < window.end - window.first
    → is_over window name goals chip fewer ≡ false
