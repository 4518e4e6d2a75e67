-- Words and lines: texts without blanks, and texts without LF.
use Rattle.std.proofs.Common.{◌≡◌, ◌∙◌, ◌≤◌, ℕ, zero, suc, ◌+◌, ◌/◌, ◌%◌, Bool, true, false, not, List, [], ◌∷◌, ◌++◌, ap, append_assoc, arith, refl}
use Rattle.std.specs.Prelude.{◌==◌, ◌||◌, All, nat_lt, if◌then◌else◌}
use Rattle.std.specs.Fmt.{digit_glyph, digits, digits_onto}
use Rattle.std.specs.List.{list_all, slice_split}
use Rattle.std.proofs.lemmas.Bool.{and_from, and_parts, false≢true, not-true}
use Rattle.std.proofs.lemmas.List.Elements.{All-weaker}
use Rattle.std.proofs.lemmas.List.Folds.{list_all-append}
use Rattle.std.proofs.lemmas.List.Sums.{AllPass-from_list_all}
use Rattle.std.proofs.lemmas.List.Splits.{slice_split_at, slice_split_none}
use Rattle.ga_word.specs.Hex.{hex_digits}
use Rattle.ga_word.specs.Text.{is_blank}
use Rattle.ga_place.specs.declared.side.Side.{Side}
use Rattle.ga_place.specs.declared.side.Side.TheVariants.{Right, Down, Left, Up}
use Rattle.ga_dump.specs.Side.{side_text}
use Rattle.ga_wave.specs.Reading.{is_word, lines_in}

pub none : (test : ℕ → Bool) (xs : List ℕ) → list_all (λ x. not (test x)) xs ≡ true
    → All (λ x. test x ≡ false) xs
none test xs e =
    All-weaker (λ x. not (test x) ≡ true) (λ x. test x ≡ false) (λ x. not-true (test x)) xs
    (AllPass-from_list_all (λ x. not (test x)) xs e)

-- ---- lines

abbrev is_end : ℕ → Bool
is_end byte = byte == 10

abbrev pub is_line : List ℕ → Bool
is_line text = list_all (λ byte. not (is_end byte)) text

pub line_append : (one other : List ℕ) → is_line one ≡ true → is_line other ≡ true
    → is_line (one ++ other) ≡ true
line_append one other e f =
    list_all-append (λ byte. not (is_end byte)) one other
    ∙ and_from (is_line one) (is_line other) e f

-- a line in front of a text
pub first_line : (line rest : List ℕ) → is_line line ≡ true
    → lines_in ((line ++ 10 ∷ []) ++ rest) ≡ line ∷ lines_in rest
first_line line rest whole =
    ap lines_in (append_assoc line (10 ∷ []) rest)
    ∙ slice_split_at is_end line 10 rest (none is_end line whole) refl

-- ---- words

not_end : (byte : ℕ) → not (is_blank byte) ≡ true → not (is_end byte) ≡ true
not_end byte = by (byte == 32) (byte == 9) (byte == 10) (byte == 13)
  where
    by : (space tab end return : Bool) → not (space || tab || end || return) ≡ true
        → not end ≡ true
    by true tab end return e = absurd (false≢true e)
    by false true end return e = absurd (false≢true e)
    by false false true return e = e
    by false false false return e = refl

pub line_of_word : (text : List ℕ) → is_word text ≡ true → is_line text ≡ true
line_of_word [] e = refl
line_of_word (byte ∷ text) e =
    let (first, rest) = and_parts (not (is_blank byte)) (is_word text) e in
    and_from (not (is_end byte)) (is_line text) (not_end byte first) (line_of_word text rest)

pub word_append : (one other : List ℕ) → is_word one ≡ true → is_word other ≡ true
    → is_word (one ++ other) ≡ true
word_append one other e f =
    list_all-append (λ byte. not (is_blank byte)) one other
    ∙ and_from (is_word one) (is_word other) e f

-- two words with a blank between them
pub two_words : (one other : List ℕ) → is_word one ≡ true → is_word other ≡ true
    → slice_split is_blank ((one ++ 32 ∷ []) ++ other) ≡ one ∷ other ∷ []
two_words one other e f =
    ap (slice_split is_blank) (append_assoc one (32 ∷ []) other)
    ∙ slice_split_at is_blank one 32 other (none is_blank one e) refl
    ∙ ap (λ words. one ∷ words) (slice_split_none is_blank other (none is_blank other f))

-- the characters from `!` on are no blanks
visible : (byte : ℕ) → 33 ≤ byte → not (is_blank byte) ≡ true
visible byte high = grind arith

pub visible_word : (byte : ℕ) (behind : List ℕ) → 33 ≤ byte → is_word behind ≡ true
    → is_word (byte ∷ behind) ≡ true
visible_word byte behind high e =
    and_from (not (is_blank byte)) (is_word behind) (visible byte high) e

glyph : (upper : Bool) (digit : ℕ) → 33 ≤ digit_glyph upper digit
glyph upper digit = by (nat_lt digit 10) upper
  where
    by : (small upper : Bool)
        → 33 ≤ (if small then 48 + digit else (if upper then 55 + digit else 87 + digit))
    by true upper = omega arith
    by false true = omega arith
    by false false = omega arith

digits_onto_word : (count base : ℕ) (upper : Bool) (number : ℕ) (behind : List ℕ)
    → is_word behind ≡ true → is_word (digits_onto count base upper number behind) ≡ true
digits_onto_word zero base upper number behind e = e
digits_onto_word (suc count) base upper number behind e =
    by (number / base == 0) more
    (digits_onto_word count base upper (number / base) (digit_glyph upper (number % base) ∷ behind)
    more)
  where
    more : is_word (digit_glyph upper (number % base) ∷ behind) ≡ true
    more = visible_word (digit_glyph upper (number % base)) behind (glyph upper (number % base)) e

    by : (last : Bool) → is_word (digit_glyph upper (number % base) ∷ behind) ≡ true
        → is_word (digits_onto count base upper (number / base)
        (digit_glyph upper (number % base) ∷ behind)) ≡ true
        → is_word (if last then digit_glyph upper (number % base) ∷ behind
        else digits_onto count base upper (number / base)
        (digit_glyph upper (number % base) ∷ behind)) ≡ true
    by true one all = one
    by false one all = all

pub digits_word : (base number : ℕ) → is_word (digits base false number) ≡ true
unfolding digits
digits_word base number = digits_onto_word 64 base false number [] refl

pub hex_word : (width number : ℕ) → is_word (hex_digits width number) ≡ true
unfolding hex_digits
hex_word zero number = refl
hex_word (suc width) number =
    let last = digit_glyph true (number % 16) in
    word_append (hex_digits width (number / 16)) (last ∷ [])
    (hex_word width (number / 16))
    (visible_word last [] (glyph true (number % 16)) refl)

-- ---- names

pub side_word : (side : Side) → is_word (side_text side) ≡ true
side_word Right = refl
side_word Down = refl
side_word Left = refl
side_word Up = refl
