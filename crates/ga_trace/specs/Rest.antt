-- Turns until no node moves but those that spin.
use Rattle.std.specs.Prelude.{ℕ, zero, suc, ◌+◌, ◌%◌, ◌^◌, ◌==◌, Bool, true, false, ◌&&◌, not, List, [], ◌∷◌, None, length, if◌then◌else◌}
use Rattle.std.specs.List.{flat_map, range_with_len}
use Rattle.std.specs.Option.{option_map_or}
use Rattle.ga_place.specs.Cell.{name_at}
use Rattle.ga_node.specs.State.{State, is_fetch}
use Rattle.ga_node.specs.Slot.{step}
use Rattle.ga_node.specs.Spins.{is_spinning}
use Rattle.ga_chip.specs.Chip.{Chip, state_of}
use Rattle.ga_chip.specs.Run.{has_break}
use Rattle.ga_trace.specs.declared.rest.Ran.{Ran}
use Rattle.ga_trace.specs.Traced.{moved_in, turned}

-- ---- nodes that spin

-- the next step of a node begins at no breakpoint
abbrev pub is_unbroken : (ℕ → Bool) → State → Bool
is_unbroken is_break state = not (is_fetch state.place && is_break (state.p % 2 ^ 9))

-- none of its next steps begins at one
unfoldable pub are_unbroken : (ℕ → Bool) → ℕ → State → Bool
are_unbroken is_break zero state = true
are_unbroken is_break (suc count) state =
    is_unbroken is_break state && are_unbroken is_break count (step state None)

-- A node with these breakpoints is seen to spin: at most four own steps lead back to its state,
-- and none of them begins at a breakpoint.
unfoldable pub spins_with : (ℕ → Bool) → State → Bool
spins_with is_break state = is_spinning state && are_unbroken is_break 4 state

abbrev pub spins : Chip → ℕ → Bool
spins chip name = option_map_or (spins_with (has_break chip name)) (state_of chip name) false

abbrev pub if_spins : Chip → ℕ → List ℕ
if_spins chip name = if spins chip name then name ∷ [] else []

-- how many nodes spin
unfoldable pub spin_count : Chip → ℕ
spin_count chip = length (flat_map (λ index. if_spins chip (name_at index)) (range_with_len 0 144))

-- ---- turns

-- how many turns in a row moved only nodes that spin, after one more
abbrev pub calm_after : ℕ → ℕ → ℕ → ℕ
calm_after calm moved spinning = if moved == spinning then calm + 1 else 0

-- At most `left` turns, behind `turn` of them that moved nodes `moved` times, until four in a row
-- moved only nodes that spin. Four turns look at all ports.
unfoldable pub ran_from : ℕ → ℕ → ℕ → ℕ → Chip → Ran × Chip
ran_from zero turn moved calm chip =
    (record { turns = turn; moved = moved; rests = calm == 4 }, chip)
ran_from (suc left) turn moved calm chip =
    if calm == 4 then (record { turns = turn; moved = moved; rests = true }, chip)
    else ran_from left (suc turn) (moved + moved_in turn chip)
    (calm_after calm (moved_in turn chip) (spin_count chip)) (turned turn chip)
