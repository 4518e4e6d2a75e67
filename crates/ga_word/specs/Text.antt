-- The text of a list of words.
use Rattle.std.specs.Prelude.{◌==◌, ◌||◌, ℕ, ◌+◌, ◌%◌, Bool, true, false, not, List, [], ◌∷◌, ◌++◌, filter, Option, Some, None, Result, Ok, Err, if◌then◌else◌}
use Rattle.std.specs.List.{slice_split}
use Rattle.ga_word.specs.Hex.{hex_digits, word_of}

abbrev pub is_empty : {X : Type 0} → List X → Bool
is_empty [] = true
is_empty (x ∷ xs) = false

-- The text of words, of which the first has this index. LF is behind the last word and behind each
-- eighth one, and a space behind the others.
abbrev pub text_from : ℕ → List ℕ → List ℕ
text_from place [] = []
text_from place (word ∷ words) =
    hex_digits 5 word ++ (if is_empty words || (place % 8 == 7) then 10 else 32)
    ∷ text_from (place + 1) words

-- eight words on a line, one space between them, each line ended by LF
abbrev pub text_of_words : List ℕ → List ℕ
text_of_words words = text_from 0 words

-- space, tab, LF and CR
abbrev pub is_blank : ℕ → Bool
is_blank c = (c == 32) || (c == 9) || (c == 10) || (c == 13)

-- the tokens of a text: the parts between blanks that aren't empty
unfoldable pub tokens : List ℕ → List (List ℕ)
tokens text = filter (λ token. not (is_empty token)) (slice_split is_blank text)

abbrev pub word_onto : ℕ → Option ℕ → Result (List ℕ) ℕ → Result (List ℕ) ℕ
word_onto place None rest = Err place
word_onto place (Some word) (Ok words) = Ok (word ∷ words)
word_onto place (Some word) (Err bad) = Err bad

-- the words that tokens write, of which the first has this index, or the index of the first that
-- writes none
abbrev pub words_from : ℕ → List (List ℕ) → Result (List ℕ) ℕ
words_from place [] = Ok []
words_from place (token ∷ rest) = word_onto place (word_of token) (words_from (place + 1) rest)

-- the words of a text, or the place of its first token that writes no word
abbrev pub words_of_text : List ℕ → Result (List ℕ) ℕ
words_of_text text = words_from 0 (tokens text)
