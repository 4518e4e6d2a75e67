-- The source text of the items of a node, behind the line of its name.
use Rattle.std.specs.Prelude.{ℕ, zero, suc, Bool, true, false, List, [], ◌∷◌, ◌++◌, codes, map, Option, Some, None, not, ◌&&◌, ◌||◌, if◌then◌else◌}
use Rattle.std.specs.Fmt.{decimal}
use Rattle.ga_word.specs.Hex.{hex_digits}
use Rattle.ga_word.specs.Op.{name_of}
use Rattle.ga_disasm.specs.Disassembling.{ItemView, Code, Follower, Data}

-- texts, each behind a space
abbrev pub behind_spaces : List (List ℕ) → List ℕ
behind_spaces [] = []
behind_spaces (text ∷ texts) = 32 ∷ (text ++ behind_spaces texts)

-- a line: texts with one space between, ended by LF
abbrev pub line : List ℕ → List (List ℕ) → List ℕ
line text texts = text ++ behind_spaces texts ++ 10 ∷ []

-- a number: `$` and five hex digits
abbrev pub number_text : ℕ → List ℕ
number_text n = codes "$" ++ hex_digits 5 n

-- the spare bits, if they aren't 0
abbrev pub spare_texts : ℕ → List (List ℕ)
spare_texts zero = []
spare_texts (suc n) = codes "/" ∷ decimal (suc n) ∷ []

-- the field of a destination, and the spare bits behind it
abbrev pub field_texts : Option ℕ → ℕ → List (List ℕ)
field_texts None spare = []
field_texts (Some dest) spare = number_text dest ∷ spare_texts spare

-- the line of an item: in brackets the opcodes of a word with the field of the last one, or a comma
-- and a number
abbrev pub item_line : ItemView → List ℕ
item_line (Code reading) =
    line (codes "[")
    (map name_of reading.ops ++ field_texts reading.dest reading.spare ++ codes "]" ∷ [])
item_line (Follower word) = line (codes ",") (number_text word ∷ [])
item_line (Data word) = line (codes ",") (number_text word ∷ [])

abbrev pub is_data : ItemView → Bool
is_data (Data word) = true
is_data item = false

-- A line for each item, and the line `data` before the first that is data, if it isn't written
-- already.
abbrev pub item_lines : Bool → List ItemView → List ℕ
item_lines in_data [] = []
item_lines in_data (item ∷ items) =
    (if is_data item && not in_data then line (codes "data") [] else []) ++ item_line item
    ++ item_lines (is_data item || in_data) items

-- the text of items
unfoldable pub text_of : List ItemView → List ℕ
text_of items = item_lines false items

-- the line that names node 000
abbrev pub node_line : List ℕ
node_line = line (codes "node") (codes "000" ∷ [])
