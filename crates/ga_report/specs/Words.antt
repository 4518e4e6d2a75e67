-- A list of the words that are pending.
use Rattle.std.specs.Prelude.{ℕ, List, [], ◌∷◌, ◌++◌, codes, Option, Some}
use Rattle.std.specs.List.{concat, flat_map, range_with_len}
use Rattle.ga_word.specs.Hex.{hex_digits}
use Rattle.ga_place.specs.Cell.{name_at}
use Rattle.ga_place.specs.Node.{node_text}
use Rattle.ga_place.specs.Side.{SIDES, neighbour_of}
use Rattle.ga_place.specs.declared.side.Side.{Side}
use Rattle.ga_chip.specs.Chip.{Chip}
use Rattle.ga_map.specs.Posted.{posted}

-- a word of a node, and its reader
unfoldable pub word_item : ℕ → ℕ → ℕ → List ℕ
word_item name reader word =
    codes "<li>" ++ node_text name ++ codes " to " ++ node_text reader ++ codes ": "
    ++ hex_digits 5 word ++ codes "</li>\n"

abbrev pub word_by : ℕ → Option ℕ → Option ℕ → List ℕ
word_by name (Some word) (Some reader) = word_item name reader word
word_by name word reader = []

-- the word that a node posted at a side, if it isn't read
abbrev pub side_word : Chip → ℕ → Side → List ℕ
side_word chip name side = word_by name (posted chip name side) (neighbour_of name side)

-- those of a node, in the order right, down, left, up
unfoldable pub node_words : Chip → ℕ → List ℕ
node_words chip name = flat_map (side_word chip name) SIDES

-- and of all nodes, in order of name
unfoldable pub all_words : Chip → List ℕ
all_words chip = flat_map (λ index. node_words chip (name_at index)) (range_with_len 0 144)

-- the begin of the list
unfoldable pub OPENING : List ℕ
OPENING = codes "<ul class='key'>\n"

-- The list of the words that are pending.
unfoldable pub words_part : Chip → List ℕ
words_part chip = concat (OPENING ∷ all_words chip ∷ codes "</ul>\n" ∷ [])
