-- Texts of words, read and written word by word.
use Rattle.std.proofs.Common.{◌≡◌, ◌<◌, ℕ, List, [], ◌∷◌, ◌++◌, Result, Ok, Err, IsUtf8, refl, slice_index_or}
use Rattle.std.proofs.lemmas.List.Elements.{All-push}
use Rattle.std.proofs.lemmas.Str.{IsUtf8-from_ascii}
use Rattle.std.proofs.lemmas.Str.Ascii.{IsAscii-from_all}
use Rattle.ga_word.specs.Hex.{hex_digits}
use Rattle.ga_word.proofs.HexDigits.{ascii-hex_digits}

-- what reading gives, with words that were read before it
abbrev pub with_front : List ℕ → Result (List ℕ) ℕ → Result (List ℕ) ℕ
with_front front (Ok words) = Ok (front ++ words)
with_front front (Err bad) = Err bad

-- the digits of a word and an ASCII byte are UTF-8
pub utf8_word : (word end : ℕ) → end < 128 → IsUtf8 (hex_digits 5 word ++ end ∷ [])
utf8_word word end h =
    let bytes = hex_digits 5 word ++ end ∷ [] in
    IsUtf8-from_ascii bytes (IsAscii-from_all bytes
    (All-push (λ c. c < 128) (hex_digits 5 word) end (ascii-hex_digits 5 word) h))

-- five digits one by one
pub each_digit : (digits : List ℕ) (word end : ℕ) → digits ≡ hex_digits 5 word
    → slice_index_or digits 0 0 ∷ slice_index_or digits 1 0 ∷ slice_index_or digits 2 0
    ∷ slice_index_or digits 3 0 ∷ slice_index_or digits 4 0 ∷ end ∷ [] ≡ hex_digits 5 word ++ end
    ∷ []
unfolding hex_digits
each_digit digits word end is = rw is refl
