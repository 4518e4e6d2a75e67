-- The nodes that wait for good, and aren't in a ring.
use Rattle.std.specs.Prelude.{ℕ, ◌==◌, Bool, ◌&&◌, not, List, [], ◌∷◌, ◌++◌, codes, length, if◌then◌else◌}
use Rattle.std.specs.List.{flat_map, range_with_len}
use Rattle.ga_place.specs.Cell.{name_at}
use Rattle.ga_place.specs.Node.{node_text}
use Rattle.ga_chip.specs.Chip.{Chip}
use Rattle.ga_waits.specs.Closed.{stuck_in}
use Rattle.ga_map.specs.Mark.{is_waiting, mark_of}
use Rattle.ga_map.specs.Rings.{in_ring}

-- a node waits and isn't in a ring, and is in the largest closed set
abbrev pub is_behind : Chip → ℕ → Bool → Bool
is_behind chip name stuck = stuck && is_waiting (mark_of chip name) && not (in_ring chip name)

-- its name behind a blank
abbrev pub behind_name : Chip → ℕ → List ℕ
behind_name chip name =
    if is_behind chip name (stuck_in chip name) then 32 ∷ node_text name else []

-- all of them, in order
unfoldable pub behind_names : Chip → List ℕ
behind_names chip = flat_map (λ index. behind_name chip (name_at index)) (range_with_len 0 144)

-- a line of names, if there are any
abbrev pub line_of_behind : List ℕ → List ℕ
line_of_behind names = if length names == 0 then [] else codes "stuck:" ++ names ++ codes "\n"
