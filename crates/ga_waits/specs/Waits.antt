-- Who waits for whom, and what will never move.
use Rattle.std.specs.Prelude.{ℕ, List, [], ◌∷◌, ◌++◌, map}
use Rattle.std.specs.List.{flat_map, range_with_len}
use Rattle.ga_place.specs.Cell.{name_at}
use Rattle.ga_asm.specs.Image.{ImageView}
use Rattle.ga_chip.specs.Chip.{Chip}
use Rattle.ga_waits.specs.Closed.{stuck_in}
use Rattle.ga_waits.specs.Line.{node_lines}
use Rattle.ga_waits.specs.Ring.{next_of, ring_line, rings_of}

-- the lines of nodes, in order of name
unfoldable pub all_node_lines : List (ℕ × ImageView) → Chip → List (List ℕ)
all_node_lines images chip =
    flat_map (λ index. node_lines images chip (stuck_in chip (name_at index)) (name_at index))
    (range_with_len 0 144)

-- the lines of rings
unfoldable pub all_ring_lines : Chip → List (List ℕ)
all_ring_lines chip = map ring_line (rings_of (next_of chip))

-- lines as a text, each ended by LF
abbrev pub text_of : List (List ℕ) → List ℕ
text_of lines = flat_map (λ line. line ++ 10 ∷ []) lines

unfoldable pub waits_text : List (ℕ × ImageView) → Chip → List ℕ
waits_text images chip = text_of (all_node_lines images chip ++ all_ring_lines chip)
