-- The listing of a node's memory around an address.
use Rattle.std.specs.Prelude.{ℕ, ◌+◌, ◌-◌, ◌==◌, List, [], ◌∷◌, ◌++◌, codes, get_or, min, slice_get, Option, Some, None, if◌then◌else◌}
use Rattle.std.specs.List.{flat_map, range_with_len}
use Rattle.std.specs.Option.{option_map_or, unwrap_or}
use Rattle.ga_word.specs.Hex.{hex_digits}
use Rattle.ga_pack.specs.Model.Layout.{Labels}
use Rattle.ga_place.specs.Address.{where_is}
use Rattle.ga_asm.specs.Image.{image_of}
use Rattle.ga_disasm.specs.Disassembling.{ItemView, items_of}
use Rattle.ga_list.specs.Row.{item_text, label_lines}
use Rattle.ga_node.specs.State.{State}
use Rattle.ga_path.specs.Stream.{Images}
use Rattle.ga_debug.specs.Label.{index_at}
use Rattle.ga_trace.specs.At.{at_word}

-- the index of the word in execution, or that a node is about to fetch, if it is in memory
abbrev pub index_of_word : State → Option ℕ
index_of_word state = index_at (where_is (at_word state.place state.p state.word))

-- the mark in front of a word: whether it is that one
abbrev pub mark_at : Option ℕ → ℕ → List ℕ
mark_at None index = codes "  "
mark_at (Some at) index = if at == index then codes "> " else codes "  "

-- the mark, the address and the number of a word
abbrev pub number_text : Option ℕ → ℕ → ℕ → List ℕ
number_text at index word =
    mark_at at index ++ hex_digits 3 index ++ codes "  " ++ hex_digits 5 word ++ codes "  "

-- its kind, and what it reads as
abbrev pub reading_text : Labels → List ItemView → ℕ → List ℕ
reading_text labels items index =
    option_map_or (item_text labels index) (slice_get items index) (codes "\n")

-- the word at an index, behind lines of its labels
abbrev pub word_line : Labels → Option ℕ → List ℕ → List ItemView → ℕ → List ℕ
word_line labels at ram items index =
    label_lines labels index ++ number_text at index (get_or ram index 0)
    ++ reading_text labels items index

-- twelve words, from the fourth before an index on, as far as memory reaches
abbrev pub first_shown : ℕ → ℕ
first_shown index = index - 4

unfoldable pub words_around : Labels → Option ℕ → ℕ → List ℕ → List ItemView → List ℕ
words_around labels at from ram items =
    flat_map (λ index. word_line labels at ram items (from + index))
    (range_with_len 0 (min 12 (64 - from)))

-- the labels of a node's image, and how many of its words are code: all, if it has no image
abbrev pub labels_in : Images → ℕ → Labels
labels_in images node = option_map_or (λ image. image.labels) (image_of images node) []

abbrev pub code_len_in : Images → ℕ → ℕ
code_len_in images node = option_map_or (λ image. image.code_len) (image_of images node) 64

-- around an address, or else around the word in execution, or else from 000 on
unfoldable pub code_shown : Images → Option ℕ → State → List ℕ
code_shown images from state =
    let at = index_of_word state in
    let center = unwrap_or from (unwrap_or at 0) in
    words_around (labels_in images state.node) at (first_shown center) state.ram
    (items_of (code_len_in images state.node) state.ram)
