-- Who waits for whom, with the idle nodes in one line.
use Rattle.std.specs.Prelude.{ℕ, ◌==◌, Bool, false, ◌&&◌, not, List, [], ◌∷◌, ◌++◌, codes, length, if◌then◌else◌}
use Rattle.std.specs.List.{flat_map, range_with_len}
use Rattle.std.specs.Option.{option_map_or}
use Rattle.ga_place.specs.Address.{idle_address_of}
use Rattle.ga_place.specs.Cell.{name_at}
use Rattle.ga_place.specs.Node.{node_text}
use Rattle.ga_asm.specs.Image.{ImageView}
use Rattle.ga_node.specs.State.{State, is_fetch}
use Rattle.ga_chip.specs.Chip.{Chip, state_of}
use Rattle.ga_chip.specs.Run.{stands_held}
use Rattle.ga_waits.specs.Closed.{stuck_in}
use Rattle.ga_waits.specs.Line.{node_lines}
use Rattle.ga_waits.specs.Waits.{all_ring_lines, text_of}

-- a node that has made steps and is about to fetch at its idle address
abbrev pub is_idle_state : ℕ → State → Bool
is_idle_state name state =
    not (state.steps == 0) && (is_fetch state.place && (state.p == idle_address_of name))

-- one that isn't held
abbrev pub is_idle : Chip → ℕ → Bool
is_idle chip name =
    not (stands_held chip name) && option_map_or (is_idle_state name) (state_of chip name) false

-- the lines of all other nodes that have started
abbrev pub busy_lines : List (ℕ × ImageView) → Chip → ℕ → List (List ℕ)
busy_lines images chip name =
    if is_idle chip name then [] else node_lines images chip (stuck_in chip name) name

unfoldable pub all_busy_lines : List (ℕ × ImageView) → Chip → List (List ℕ)
all_busy_lines images chip =
    flat_map (λ index. busy_lines images chip (name_at index)) (range_with_len 0 144)

-- the names of the idle nodes, each behind a blank
abbrev pub idle_name : Chip → ℕ → List ℕ
idle_name chip name = if is_idle chip name then 32 ∷ node_text name else []

unfoldable pub idle_names : Chip → List ℕ
idle_names chip = flat_map (λ index. idle_name chip (name_at index)) (range_with_len 0 144)

-- and a line of them, if there is one
abbrev pub line_of_idle : List ℕ → List ℕ
line_of_idle names = if length names == 0 then [] else codes "idle:" ++ names ++ codes "\n"

unfoldable pub nodes_text : List (ℕ × ImageView) → Chip → List ℕ
nodes_text images chip =
    text_of (all_busy_lines images chip) ++ line_of_idle (idle_names chip)
    ++ text_of (all_ring_lines chip)
