-- The places of the words of an input.
use Rattle.std.specs.Prelude.{◌==◌, ℕ, zero, suc, ◌+◌, ◌-◌, Bool, List, drop, length, not, reverse, take, unwrap_or}
use Rattle.std.specs.List.{count_by, position, take_while}
use Rattle.ga_pack.specs.Model.Text.{Place}
use Rattle.ga_word.specs.Text.{is_blank}

-- what is behind the blanks at the start of a text
abbrev pub behind_blanks : List ℕ → List ℕ
behind_blanks text =
    drop (unwrap_or (position (λ byte. not (is_blank byte)) text) (length text)) text

-- what is behind its first word
abbrev pub behind_word : List ℕ → List ℕ
behind_word text =
    let word = behind_blanks text in drop (unwrap_or (position is_blank word) (length word)) word

-- what is behind this many words
abbrev pub behind_words : ℕ → List ℕ → List ℕ
behind_words zero text = text
behind_words (suc count) text = behind_word (behind_words count text)

-- what begins with the word with an index, from 0
abbrev pub from_word : ℕ → List ℕ → List ℕ
from_word index text = behind_blanks (behind_words index text)

abbrev pub is_line_end : ℕ → Bool
is_line_end byte = byte == 10

-- the place behind some bytes of a text: in their last line, behind its bytes
abbrev pub place_behind : List ℕ → Place
place_behind front = record {
  line = count_by is_line_end front + 1;
  column = length (take_while (λ byte. not (is_line_end byte)) (reverse front)) + 1;
}

-- The place of the word with an index. In front of it are words and blanks alone, so its column
-- counts bytes.
unfoldable pub word_place : List ℕ → ℕ → Place
word_place text index =
    place_behind (take (length text - length (from_word index text)) text)
