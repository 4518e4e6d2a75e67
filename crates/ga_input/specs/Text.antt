-- The input as text and as words.
use Rattle.std.specs.Prelude.{◌≡◌, ◌⊎◌, ℕ, List, length, nat_lt, Option, Some, None, Result, Ok, Err, if◌then◌else◌}
use Rattle.std.specs.Str.{is_utf8}
use Rattle.ga_word.specs.Text.{is_empty, words_of_text}
use Rattle.ga_input.specs.declared.fault.ServeError.{ServeError}
use Rattle.ga_input.specs.declared.fault.ServeError.TheVariants.{Input, Words}
use Rattle.ga_input.specs.declared.fault.InputFault.TheVariants.{BadText}
use Rattle.ga_input.specs.declared.fault.WordsFault.TheVariants as words

-- an input as text: itself if it is UTF-8
abbrev pub text_in : List ℕ → Result (List ℕ) ServeError
text_in input = if is_utf8 input then Ok input else Err (Input BadText)

-- the same, if it is a text
abbrev pub as_text : List ℕ → Option (List ℕ)
as_text input = if is_utf8 input then Some input else None

-- The result of an input that must be a text: the result of the text, with its faults as the
-- program reports them; or the fault of an input that is no text.
abbrev pub IsInText : {A E : Type 0} → (List ℕ → E → ServeError) → (List ℕ → Result A E → Type 0)
    → List ℕ → Result A ServeError → Type 0
IsInText told Is input (Ok found) = (text : List ℕ) × (text_in input ≡ Ok text) × Is text (Ok found)
IsInText {E = E} told Is input (Err fault) =
    (text_in input ≡ Err fault) ⊎ ((text : List ℕ) × (error : E) × (text_in input ≡ Ok text)
    × Is text (Err error) × (told text error ≡ fault))

-- what a step answers to what was found, or why nothing was
abbrev pub and_then : {A B E : Type 0} → (A → Result B E) → Result A E → Result B E
and_then next (Ok found) = next found
and_then next (Err fault) = Err fault

-- what a function makes of what was found, or why nothing was
unfoldable pub IsMade : {A B E : Type 0} → (Result A E → Type 0) → (A → B) → Result B E → Type 0
IsMade {A = A} Is make (Ok made) = (found : A) × Is (Ok found) × (made ≡ make found)
IsMade Is make (Err fault) = Is (Err fault)

-- one to 64 words, if all tokens are words
abbrev pub words_found : Result (List ℕ) ℕ → Result (List ℕ) ServeError
words_found (Ok found) =
    if is_empty found then Err (Words words.Empty)
    else (if nat_lt 64 (length found) then Err (Words words.TooLong) else Ok found)
words_found (Err index) = Err (Words (words.BadWord index))

-- The words of an input: one to 64, in its text. Else the first fault: no text, a token that is no
-- word, no word, or too many.
unfoldable pub words_in : List ℕ → Result (List ℕ) ServeError
words_in input = and_then (λ text. words_found (words_of_text text)) (text_in input)
