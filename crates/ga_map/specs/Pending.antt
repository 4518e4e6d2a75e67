-- The words that are pending, and who can read them.
use Rattle.std.specs.Prelude.{ℕ, List, [], ◌∷◌, codes, Option, Some}
use Rattle.std.specs.List.{concat, flat_map, range_with_len}
use Rattle.ga_word.specs.Hex.{hex_digits}
use Rattle.ga_place.specs.Cell.{name_at}
use Rattle.ga_place.specs.Node.{node_text}
use Rattle.ga_place.specs.Side.{SIDES, neighbour_of}
use Rattle.ga_place.specs.declared.side.Side.{Side}
use Rattle.ga_asm.specs.Image.{ImageView}
use Rattle.ga_chip.specs.Chip.{Chip}
use Rattle.ga_map.specs.Position.{position}
use Rattle.ga_map.specs.Posted.{posted}

-- the line of a word of a node, and its reader
unfoldable pub pending_line : List (ℕ × ImageView) → Chip → ℕ → ℕ → ℕ → List ℕ
pending_line images chip name word reader =
    concat (codes "pending " ∷ node_text name ∷ codes " to " ∷ node_text reader
    ∷ codes " " ∷ hex_digits 5 word ∷ codes "  " ∷ position images chip reader
    ∷ codes "\n" ∷ [])

abbrev pub pending_by : List (ℕ × ImageView) → Chip → ℕ → Option ℕ → Option ℕ → List ℕ
pending_by images chip name (Some word) (Some reader) = pending_line images chip name word reader
pending_by images chip name word reader = []

-- the line of the word that a node posted at a side, if it isn't read
abbrev pub side_pending : List (ℕ × ImageView) → Chip → ℕ → Side → List ℕ
side_pending images chip name side =
    pending_by images chip name (posted chip name side) (neighbour_of name side)

-- those of a node, in the order right, down, left, up
unfoldable pub node_pending : List (ℕ × ImageView) → Chip → ℕ → List ℕ
node_pending images chip name = flat_map (side_pending images chip name) SIDES

-- and of all nodes, in order of name
unfoldable pub all_pending : List (ℕ × ImageView) → Chip → List ℕ
all_pending images chip =
    flat_map (λ index. node_pending images chip (name_at index)) (range_with_len 0 144)
