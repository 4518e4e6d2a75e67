-- What the parts of a line mean as tokens.
use Rattle.std.proofs.Common.{◌≡◌, ◌∙◌, ◌+◌, ◌*◌, ◌/◌, ◌%◌, ◌^◌, ◌<◌, ℕ, zero, suc, true, List, [], ◌∷◌, length, refl, ap, arith, Some, eqb-true}
use Rattle.std.proofs.Math.Nat.{pow-suc}
use Rattle.std.proofs.lemmas.Bool.{and_from, and_parts}
use Rattle.std.proofs.lemmas.Bool.Decides.{nat_tests}
use Rattle.std.proofs.lemmas.Fmt.{decimal_digit}
use Rattle.std.proofs.lemmas.Int.Digits.{digits_value_push}
use Rattle.std.proofs.lemmas.List.Folds.{list_all-append}
use Rattle.std.specs.Prelude.{◌==◌, ◌&&◌, nat_lt, not}
use Rattle.std.specs.Char.{is_digit}
use Rattle.std.specs.Fmt.{decimal, digit_glyph}
use Rattle.std.specs.List.{list_all}
use Rattle.std.specs.Str.Parse.{digits_value}
use Rattle.ga_word.specs.Hex.{hex_digits, hex_number, is_word_text, word_of}
use Rattle.ga_word.specs.Op.{name_of}
use Rattle.ga_word.specs.Text.{is_blank}
use Rattle.ga_word.specs.declared.op.Op.{Op}
use Rattle.ga_word.specs.declared.op.Op.TheVariants.{Jump}
use Rattle.ga_word.proofs.HexDigits.{digit_value-glyph, word_of-hex_digits}
use Rattle.ga_pack.specs.Model.Token.{number, meaning_of}
use Rattle.ga_disasm.specs.Printing.{number_text}
use Rattle.ga_disasm.proofs.TextLines.{is_plain}

-- ---- the name of an opcode

pub name_plain : (o : Op) → is_plain (name_of o) ≡ true
name_plain Jump = refl
name_plain o = refl

-- ---- `$` and five hex digits

not_blank : (d : ℕ) → d < 16 → not (is_blank (digit_glyph true d)) ≡ true
not_blank d h = grind (arith, nat_tests)

digits_unbroken : (width n : ℕ) → list_all (λ c. not (is_blank c)) (hex_digits width n) ≡ true
unfolding hex_digits
digits_unbroken zero n = refl
digits_unbroken (suc width) n =
    let last : not (is_blank (digit_glyph true (n % 16))) ≡ true =
    not_blank (n % 16) (omega arith) in
    list_all-append (λ c. not (is_blank c))
    (hex_digits width (n / 16)) (digit_glyph true (n % 16) ∷ [])
    ∙ and_from (list_all (λ c. not (is_blank c)) (hex_digits width (n / 16)))
    (list_all (λ c. not (is_blank c)) (digit_glyph true (n % 16) ∷ [])) (digits_unbroken width
    (n / 16)) (and_from (not (is_blank (digit_glyph true (n % 16)))) true last refl)

pub number_plain : (n : ℕ) → is_plain (number_text n) ≡ true
number_plain n = rw (digits_unbroken 5 n) refl

digits_value-hex_digits : (width n : ℕ) → n < 16 ^ width → digits_value 16 (hex_digits width n) ≡ n
unfolding hex_digits
digits_value-hex_digits zero n h = omega arith
digits_value-hex_digits (suc width) n h =
    let more : 16 ^ suc width ≡ 16 ^ width * 16 = pow-suc 16 width in
    let high : n / 16 < 16 ^ width = omega arith in
    let last = digit_value-glyph (n % 16) (omega arith) in
    omega (
      arith,
      digits_value_push 16 (hex_digits width (n / 16)) (digit_glyph true (n % 16)),
      digits_value-hex_digits width (n / 16) high,
      last,
    )

word_text_by : (text : List ℕ) (word : ℕ) → is_word_text text ≡ true
    → (length text ≡ 5) × (list_all (λ c. is_digit c 16) text ≡ true)
unfolding is_word_text
word_text_by text word h =
    let both = and_parts ((length text == 5) && list_all (λ c. is_digit c 16) text)
    (nat_lt (hex_number text) (2 ^ 18)) h in
    let parts = and_parts (length text == 5) (list_all (λ c. is_digit c 16) text) both.0 in
    (eqb-true (length text) 5 parts.0, parts.1)

is_written : (text : List ℕ) (word : ℕ) → word_of text ≡ Some word → is_word_text text ≡ true
is_written text word h = grind (arith, nat_tests)

number_means_by : (digits : List ℕ) (n : ℕ) → length digits ≡ 5
    → list_all (λ c. is_digit c 16) digits ≡ true → digits_value 16 digits ≡ n
    → nat_lt n (2 ^ 18) ≡ true → meaning_of (36 ∷ digits) ≡ number n
unfolding meaning_of
number_means_by digits n five all value small = rw (five, all, value, small) refl

pub meaning_of-number_text : (n : ℕ) → n < 2 ^ 18 → meaning_of (number_text n) ≡ number n
meaning_of-number_text n small =
    let digits = hex_digits 5 n in
    let parts = word_text_by digits n (is_written digits n (word_of-hex_digits n small)) in
    number_means_by digits n parts.0 parts.1 (digits_value-hex_digits 5 n (omega arith))
    (grind (arith, nat_tests))

-- ---- the spare bits

pub spare_plain : (n : ℕ) → n < 8 → is_plain (decimal n) ≡ true
spare_plain n small = rw (decimal_digit n (omega arith)) (grind (arith, nat_tests))

digit_means : (n : ℕ) → n < 8 → meaning_of ((48 + n) ∷ []) ≡ number n
unfolding meaning_of
digit_means (suc (suc (suc (suc (suc (suc (suc (suc n)))))))) h = absurd (omega arith)
digit_means _ h = refl

pub meaning_of-spare : (n : ℕ) → n < 8 → meaning_of (decimal n) ≡ number n
meaning_of-spare n small = ap meaning_of (decimal_digit n (omega arith)) ∙ digit_means n small
