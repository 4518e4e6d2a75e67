-- Words on a line.
use Rattle.std.specs.Prelude.{ℕ, List, [], ◌∷◌, ◌++◌}
use Rattle.ga_word.specs.Hex.{hex_digits}

-- words as five hex digits, each behind a space, and the line's end
abbrev pub row_of : List ℕ → List ℕ
row_of [] = 10 ∷ []
row_of (word ∷ words) = 32 ∷ hex_digits 5 word ++ row_of words
