-- The lines of the words of a node.
use Rattle.std.specs.Prelude.{◌==◌, ℕ, suc, ◌-◌, List, [], ◌∷◌, ◌++◌, codes, length, replicate, if◌then◌else◌}
use Rattle.std.specs.Str.{chars}
use Rattle.ga_word.specs.Hex.{hex_digits}
use Rattle.ga_pack.specs.Model.Layout.{Labels}
use Rattle.ga_pack.specs.Model.Program.{place_at}
use Rattle.ga_pack.specs.Model.Text.{Place}
use Rattle.ga_asm.specs.Image.{ImageView}
use Rattle.ga_disasm.specs.Disassembling.{ItemView, Code, Follower, Data, items_of}
use Rattle.ga_list.specs.LineNames.{LineNames}
use Rattle.ga_list.specs.Reading.{reading_line}

-- what kind of word it is, in eight columns
abbrev pub mark_text : ItemView → List ℕ
mark_text (Code reading) = codes "code    "
mark_text (Follower word) = codes "follower"
mark_text (Data word) = codes "data    "

-- the blanks in front of a text, if it has less than five characters
unfoldable pub blanks_before : List ℕ → List ℕ
blanks_before shown = replicate (5 - length (chars shown)) 32

-- The line of the word at an address: the address, the word, what kind of word it is, what is shown
-- of the line of the text in which it begins, and what it reads as.
unfoldable pub row_text : Labels → ℕ → ℕ → ItemView → List ℕ → List ℕ
row_text labels address word item line_name =
    hex_digits 3 address ++ codes "  " ++ hex_digits 5 word ++ codes "  " ++ mark_text item
    ++ codes " " ++ blanks_before line_name ++ line_name ++ codes "  "
    ++ reading_line labels address item

-- the kind of a word at an address, and what it reads as
abbrev pub item_text : Labels → ℕ → ItemView → List ℕ
item_text labels address item =
    mark_text item ++ codes "  " ++ reading_line labels address item

-- a line for each label that has this address
abbrev pub label_lines : Labels → ℕ → List ℕ
label_lines [] address = []
label_lines (label ∷ labels) address =
    (if label.1 == address then label.0 ++ codes ":\n" else []) ++ label_lines labels address

-- the lines of words from an address on, each behind those of its labels
abbrev pub rows_from : LineNames → Labels → List Place → ℕ → List ℕ → List ItemView → List ℕ
rows_from names labels places address (word ∷ words) (item ∷ items) =
    label_lines labels address
    ++ row_text labels address word item (names (place_at places address))
    ++ rows_from names labels places (suc address) words items
rows_from names labels places address words items = []

-- the lines of a node's words, which begin at these places of the text, and of the labels behind
-- them
unfoldable pub rows_of : LineNames → ImageView → List Place → List ℕ
rows_of names image places =
    rows_from names image.labels places 0 image.words (items_of image.code_len image.words)
    ++ label_lines image.labels (length image.words)
