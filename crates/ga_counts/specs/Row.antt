-- The lines of the words of a node, with their counts.
use Rattle.std.specs.Prelude.{ℕ, suc, ◌+◌, List, [], ◌∷◌, ◌++◌, codes, length}
use Rattle.std.specs.Fmt.{decimal}
use Rattle.std.specs.List.{concat, slice_get}
use Rattle.std.specs.Option.{option_map_or}
use Rattle.ga_word.specs.Hex.{hex_digits}
use Rattle.ga_pack.specs.Model.Layout.{Labels}
use Rattle.ga_pack.specs.Model.Text.{Place}
use Rattle.ga_asm.specs.Image.{ImageView}
use Rattle.ga_disasm.specs.Disassembling.{ItemView, Code, items_of}
use Rattle.ga_list.specs.Row.{item_text, label_lines}
use Rattle.ga_counts.specs.declared.row.Row.{Row}
use Rattle.ga_counts.specs.declared.word_counts.WordCounts.{WordCounts}
use Rattle.ga_counts.specs.Columns.{cell, counts_text}
use Rattle.ga_counts.specs.Counts.{word_counts}
use Rattle.ga_counts.specs.Heat.{heat, is_hot, most_heat}

-- how many opcodes a word of code has
abbrev pub opcodes_in : ItemView → ℕ
opcodes_in (Code reading) = length reading.ops
opcodes_in item = 0

-- the address, the word, and the line of the text in which it begins
unfoldable pub place_text : ℕ → ℕ → ℕ → List ℕ
place_text address word text_line =
    concat (codes "  " ∷ hex_digits 3 address ∷ codes "  " ∷ hex_digits 5 word
    ∷ cell 7 (decimal text_line) ∷ codes "  " ∷ [])

-- The line of a word: its counts, its place, and what it reads as.
unfoldable pub row_text : Labels → Row → ItemView → List ℕ
row_text labels row item =
    concat (counts_text row.counts (opcodes_in item) row.is_hot
    ∷ place_text row.address row.word row.line
    ∷ item_text labels row.address item ∷ [])

-- the line of the text in which the word at an address begins
abbrev pub line_at : List Place → ℕ → ℕ
line_at places address = option_map_or (λ place. place.line) (slice_get places address) 1

-- the row of a word by its counts, the most heat of its node, and its line
abbrev pub row_by : WordCounts → ℕ → ℕ → ℕ → ℕ → ItemView → Row
row_by counts most text_line address word item = record {
  address = address;
  word = word;
  line = text_line;
  counts = counts;
  is_hot = is_hot (heat address item counts) most;
}

-- The row of a word, by the counts and the most heat of its node, the places of the node's words in
-- the text, and how many lines are before the text.
abbrev pub row_at : (ℕ → WordCounts) → ℕ → List Place → ℕ → ℕ → ℕ → ItemView → Row
row_at counts most places before address word item =
    row_by (counts address) most (line_at places address + before) address word item

-- the lines of words from an address on, each behind those of its labels
abbrev pub rows_from : Labels → (ℕ → ℕ → ItemView → Row) → ℕ → List ℕ → List ItemView → List ℕ
rows_from labels row address (word ∷ words) (item ∷ items) =
    label_lines labels address ++ row_text labels (row address word item) item
    ++ rows_from labels row (suc address) words items
rows_from labels row address words items = []

-- The lines of a node's words, and of the labels behind them.
unfoldable pub rows_of : List WordCounts → ℕ → List Place → ℕ → ImageView → List ℕ
rows_of words name places before image =
    let counts = word_counts words name in
    let items = items_of image.code_len image.words in
    rows_from image.labels (row_at counts (most_heat counts items) places before) 0 image.words
    items
    ++ label_lines image.labels (length image.words)
