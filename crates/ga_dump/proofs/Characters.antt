-- The bytes of a dump are characters.
use Rattle.std.proofs.Common.{All, ℕ, ◌<◌, List, [], ◌∷◌, ◌++◌, lit<, take, drop, ◌*◌}
use Rattle.std.proofs.lemmas.List.Elements.{All-nil, All-cons, All-append}
use Rattle.std.proofs.lemmas.Str.{IsUtf8-append, IsUtf8-from_ascii, IsUtf8-nil}
use Rattle.std.proofs.lemmas.Str.Ascii.{IsAscii-from_all}
use Rattle.std.specs.Prelude.{IsUtf8}
use Rattle.std.specs.List.{flat_map}
use Rattle.ga_word.specs.Hex.{hex_digits}
use Rattle.ga_word.proofs.HexDigits.{ascii-hex_digits}
use Rattle.ga_dump.specs.Row.{row_of}
use Rattle.ga_dump.specs.Memory.{memory_row}

ascii-row : (words : List ℕ) → All (λ c. c < 128) (row_of words)
ascii-row [] = All-cons (λ c. c < 128) 10 [] (lit< tt) (All-nil (λ c. c < 128))
ascii-row (word ∷ words) =
    All-cons (λ c. c < 128) 32 _ (lit< tt) (All-append (λ c. c < 128) (hex_digits 5 word)
    (row_of words) (ascii-hex_digits 5 word) (ascii-row words))

utf8 : (text : List ℕ) → All (λ c. c < 128) text → IsUtf8 text
utf8 text h = IsUtf8-from_ascii text (IsAscii-from_all text h)

pub utf8-row : (words : List ℕ) → IsUtf8 (row_of words)
utf8-row words = utf8 (row_of words) (ascii-row words)

pub utf8-memory_row : (ram : List ℕ) (row : ℕ) → IsUtf8 (memory_row ram row)
utf8-memory_row ram row =
    IsUtf8-append (hex_digits 3 (8 * row)) (row_of (take 8 (drop (8 * row) ram)))
    (utf8 _ (ascii-hex_digits 3 (8 * row))) (utf8-row (take 8 (drop (8 * row) ram)))

-- lines of characters are characters
pub utf8-lines : {X : Type 0} (f : X → List ℕ) → ((x : X) → IsUtf8 (f x)) → (xs : List X)
    → IsUtf8 (flat_map f xs)
utf8-lines f h [] = IsUtf8-nil
utf8-lines f h (x ∷ xs) = IsUtf8-append (f x) (flat_map f xs) (h x) (utf8-lines f h xs)

-- a text with a line of two letters and words behind it
pub utf8-stack : (text letters words : List ℕ) → IsUtf8 text → All (λ c. c < 128) letters
    → IsUtf8 (text ++ letters ++ row_of words)
utf8-stack text letters words h ascii =
    IsUtf8-append (text ++ letters) (row_of words)
    (IsUtf8-append text letters h (utf8 letters ascii)) (utf8-row words)
