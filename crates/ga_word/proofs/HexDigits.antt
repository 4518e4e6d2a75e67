-- Hex digits and the number that they write.
use Rattle.std.proofs.Common.{All, ◌≡◌, ℕ, zero, suc, ◌+◌, ◌*◌, ◌/◌, ◌%◌, ◌^◌, ◌<◌, true, false, List, [], ◌∷◌, ◌++◌, length, ltb, take, get_or, ◌≤◌, lit<, Option, Some, None, refl, arith, sym, subst, ap, ◌∙◌, add-one}
use Rattle.std.proofs.Math.Nat.{pow-suc, pow-le-pow_right}
use Rattle.std.proofs.lemmas.Nat.{shr-shr}
use Rattle.std.proofs.lemmas.List.{length-append, take_all, take_more}
use Rattle.std.proofs.lemmas.List.Folds.{list_all-append, list_all_at, list_all_more}
use Rattle.std.proofs.lemmas.Bool.Decides.{nat_tests}
use Rattle.std.specs.List.{list_all}
use Rattle.std.specs.Option.{SomeIff}
use Rattle.std.specs.Char.{digit_value, is_digit}
use Rattle.std.specs.Fmt.{digit_glyph}
use Rattle.std.proofs.lemmas.List.Elements.{All-nil, All-push}
use Rattle.ga_word.specs.Hex.{hex_digits, hex_number, is_word_text, word_of}

-- a digit reads as its own value
pub digit_value-glyph : (d : ℕ) → d < 16 → digit_value (digit_glyph true d) ≡ d
digit_value-glyph d h = grind (arith, nat_tests)

digit_is_hex : (d : ℕ) → d < 16 → is_digit (digit_glyph true d) 16 ≡ true
digit_is_hex d h = rw (digit_value-glyph d h) (grind (arith, nat_tests))

-- one digit more at the end
pub hex_number-push : (digits : List ℕ) (digit : ℕ)
    → hex_number (digits ++ digit ∷ []) ≡ hex_number digits * 16 + digit_value digit
hex_number-push [] digit = omega arith
hex_number-push (first ∷ digits) digit =
    let longer : 16 ^ length (digits ++ digit ∷ []) ≡ 16 ^ length digits * 16 =
    ap (λ n. 16 ^ n) (length-append digits (digit ∷ []) ∙ add-one (length digits))
    ∙ pow-suc 16 (length digits) in
    omega (arith, ap (λ n. digit_value first * n) longer, hex_number-push digits digit)

length-hex_digits : (width n : ℕ) → length (hex_digits width n) ≡ width
unfolding hex_digits
length-hex_digits zero n = refl
length-hex_digits (suc width) n =
    length-append (hex_digits width (n / 16)) (digit_glyph true (n % 16) ∷ [])
    ∙ ap (λ k. k + 1) (length-hex_digits width (n / 16)) ∙ add-one width

all_hex_digits : (width n : ℕ) → list_all (λ c. is_digit c 16) (hex_digits width n) ≡ true
unfolding hex_digits
all_hex_digits zero n = refl
all_hex_digits (suc width) n =
    let last : is_digit (digit_glyph true (n % 16)) 16 ≡ true =
    digit_is_hex (n % 16) (omega arith) in
    list_all-append (λ c. is_digit c 16)
    (hex_digits width (n / 16)) (digit_glyph true (n % 16) ∷ [])
    ∙ grind (arith, nat_tests, last, all_hex_digits width (n / 16))

-- the digits of a number that has no more write it
pub hex_number-hex_digits : (width n : ℕ) → n < 16 ^ width → hex_number (hex_digits width n) ≡ n
unfolding hex_digits
hex_number-hex_digits zero n h = omega arith
hex_number-hex_digits (suc width) n h =
    let more : 16 ^ suc width ≡ 16 ^ width * 16 = pow-suc 16 width in
    let high : n / 16 < 16 ^ width = omega arith in
    let last : digit_value (digit_glyph true (n % 16)) ≡ n % 16 =
    digit_value-glyph (n % 16) (omega arith) in
    omega (
      arith,
      hex_number-push (hex_digits width (n / 16)) (digit_glyph true (n % 16)),
      hex_number-hex_digits width (n / 16) high,
      last,
    )

-- what is written of a word is read as this word
pub word_of-hex_digits : (word : ℕ) → word < 2 ^ 18 → word_of (hex_digits 5 word) ≡ Some word
unfolding is_word_text
word_of-hex_digits word h =
    let number : hex_number (hex_digits 5 word) ≡ word =
    hex_number-hex_digits 5 word (omega arith) in
    rw (length-hex_digits 5 word, all_hex_digits 5 word, number) (grind (arith, nat_tests))

-- a text of another length writes no word
pub word_of-other_length : (text : List ℕ) → (length text ≡ 5 → ⊥) → word_of text ≡ None
unfolding is_word_text
word_of-other_length text h = grind (arith, nat_tests)

-- the five digits of a word, each from its four bits
pub hex_digits-5 : (word : ℕ) → word < 2 ^ 18 → hex_digits 5 word ≡ digit_glyph true (word / 2 ^ 16)
    ∷ digit_glyph true (word / 2 ^ 12 % 16) ∷ digit_glyph true (word / 2 ^ 8 % 16)
    ∷ digit_glyph true (word / 2 ^ 4 % 16) ∷ digit_glyph true (word % 16) ∷ []
unfolding hex_digits
hex_digits-5 word h =
    let byte : word / 16 / 16 ≡ word / 2 ^ 8 = shr-shr word 4 4 in
    let three : word / 2 ^ 8 / 16 ≡ word / 2 ^ 12 = shr-shr word 8 4 in
    let four : word / 2 ^ 12 / 16 ≡ word / 2 ^ 16 = shr-shr word 12 4 in
    let high : word / 2 ^ 16 % 16 ≡ word / 2 ^ 16 = omega arith in
    rw (byte, three, four, high) refl

not_below : (value : ℕ) → (value < 16 → ⊥) → ltb value 16 ≡ false
not_below value h = grind (arith, nat_tests)

-- a text with another character among its digits writes no word
pub word_of-other_character : (text : List ℕ) (place character : ℕ) → place < length text
    → character ≡ get_or text place 0 → (digit_value character < 16 → ⊥) → word_of text ≡ None
unfolding is_word_text
word_of-other_character text place character within is h =
    let other : is_digit (get_or text place 0) 16 ≡ false =
    rw (← is) (not_below (digit_value character) h) in
    rw (list_all_at (λ c. is_digit c 16) text place 0 within other) (grind (arith, nat_tests))

-- five digits write a word if their number is below 2 ^ 18
word_of-digits : (text : List ℕ) (word : Option ℕ) → length text ≡ 5
    → list_all (λ c. is_digit c 16) text ≡ true
    → SomeIff word (hex_number text < 2 ^ 18) (hex_number text) → word ≡ word_of text
unfolding is_word_text
word_of-digits text None five digits h = rw (five, digits) (grind (arith, nat_tests))
word_of-digits text (Some word) five digits h = rw (five, digits) (grind (arith, nat_tests))

below_is_true : (value : ℕ) → value < 16 → ltb value 16 ≡ true
below_is_true value h = grind (arith, nat_tests)

-- what a loop over the digits knows of the first ones
pub record WritesSoFar (text : List ℕ) (place number : ℕ) : Type 0 where
  pub digits : list_all (λ c. is_digit c 16) (take place text) ≡ true
  pub value : number ≡ hex_number (take place text)
  pub small : number < 16 ^ place

-- one digit more
pub writes_more : (text : List ℕ) (place number character digit : ℕ) → place < length text
    → WritesSoFar text place number → character ≡ get_or text place 0 → digit_value character < 16
    → digit ≡ digit_value character → WritesSoFar text (place + 1) (number * 16 + digit)
writes_more text place number character digit within so_far is hex value = record {
  digits = list_all_more (λ c. is_digit c 16) text place 0 within
      ∙ rw (so_far.digits, ← is) (below_is_true (digit_value character) hex);
  value = rw (take_more text place 0 within, hex_number-push, ← is) (ap
      (λ n. n * 16 + digit) so_far.value ∙ ap (λ n. hex_number (take place text) * 16 + n) value);
  small =
      let more : 16 ^ (place + 1) ≡ 16 ^ place * 16 = rw add-one (pow-suc 16 place) in
      omega (arith, more, so_far.small);
}

-- four digits leave room for a fifth
pub below_five_digits : (number place : ℕ) → place < 5 → number < 16 ^ place → number < 2 ^ 16
below_five_digits number place within small =
    let most : 16 ^ place ≤ 16 ^ 4 =
    pow-le-pow_right {n = 16} (lit< tt) {i = place} {j = 4} (omega arith) in omega (arith, most)

-- what a loop over five digits has read
pub word_of-written : (text : List ℕ) (place number : ℕ) (word : Option ℕ) → length text ≡ 5
    → length text ≤ place → WritesSoFar text place number → SomeIff word (number < 2 ^ 18) number
    → word ≡ word_of text
word_of-written text place number word five all so_far h =
    let whole : take place text ≡ text = take_all place text all in
    let value : number ≡ hex_number text = so_far.value ∙ ap hex_number whole in
    let digits : list_all (λ c. is_digit c 16) text ≡ true =
    ap (list_all (λ c. is_digit c 16)) (sym whole) ∙ so_far.digits in
    word_of-digits text word five digits (subst (λ n. SomeIff word (n < 2 ^ 18) n) value h)

-- each digit is one byte of ASCII
pub ascii-hex_digits : (width n : ℕ) → All (λ c. c < 128) (hex_digits width n)
unfolding hex_digits
ascii-hex_digits zero n = All-nil (λ c. c < 128)
ascii-hex_digits (suc width) n =
    let last : digit_glyph true (n % 16) < 128 = let low : n % 16 < 16 = omega arith in
    grind (arith, nat_tests) in
    All-push (λ c. c < 128) (hex_digits width (n / 16)) (digit_glyph true (n % 16))
    (ascii-hex_digits width (n / 16)) last
