-- What the format `{:0wX}` writes of a number: its low w hex digits, if it has no more.
use Rattle.std.proofs.Common.{◌≡◌, ℕ, zero, suc, ◌+◌, ◌-◌, ◌*◌, ◌/◌, ◌%◌, ◌^◌, ◌<◌, ◌≤◌, ◌==◌, Bool, true, false, List, [], ◌∷◌, ◌++◌, length, refl, arith, sym, ap, ◌∙◌, append_assoc, append-nil, eqb-true}
use Rattle.std.proofs.Math.Nat.{pow-suc}
use Rattle.std.specs.Prelude.{replicate}
use Rattle.std.specs.Fmt.{digit_glyph, digits, digits_onto, padded_integral, format_spec, char_count}
use Rattle.ga_word.specs.Hex.{hex_digits}

replicate_push : (count c : ℕ) → replicate count c ++ c ∷ [] ≡ c ∷ replicate count c
replicate_push zero c = refl
replicate_push (suc count) c = ap (λ cs. c ∷ cs) (replicate_push count c)

hex_digits-zero : (width : ℕ) → hex_digits width 0 ≡ replicate width 48
unfolding hex_digits
hex_digits-zero zero = refl
hex_digits-zero (suc width) =
    ap (λ ds. ds ++ 48 ∷ []) (hex_digits-zero width) ∙ replicate_push width 48

-- the digits before others, filled up with zeros
abbrev Fills : ℕ → ℕ → ℕ → List ℕ → Type 0
Fills room width n rest =
    replicate (width + length rest - length (digits_onto room 16 true n rest)) 48
    ++ digits_onto room 16 true n rest ≡ hex_digits width n ++ rest

one_more : {X : Type 0} (xs : List X) → suc (length xs) ≡ 1 + length xs
one_more xs = omega arith

fills_last : (room width n : ℕ) (rest : List ℕ) → n < 16 → Fills (suc room) (suc width) n rest
unfolding hex_digits
fills_last room width n rest small =
    let none : n / 16 ≡ 0 = omega arith in
    let last : (n / 16 == 0) ≡ true = rw none refl in
    let zeros : suc width + length rest - (1 + length rest) ≡ width = omega arith in
    rw (last, one_more rest, zeros, none, hex_digits-zero width)
    (sym (append_assoc (replicate width 48) (digit_glyph true (n % 16) ∷ []) rest))

fills_more : (room width n : ℕ) (rest : List ℕ) (b : Bool) → (n / 16 == 0) ≡ b
    → Fills room width (n / 16) (digit_glyph true (n % 16) ∷ rest)
    → Fills (suc room) (suc width) n rest
unfolding hex_digits
fills_more room width n rest true e h =
    fills_last room width n rest (omega (arith, eqb-true (n / 16) 0 e))
fills_more room width n rest false e h =
    let longer : suc width + length rest ≡ width + suc (length rest) = omega arith in
    rw (e, longer, append_assoc) h

fills : (width room n : ℕ) (rest : List ℕ) → width ≤ room → n < 16 ^ suc width
    → Fills (suc room) (suc width) n rest
fills zero room n rest within small = fills_last room zero n rest (omega arith)
fills (suc width) zero n rest within small = absurd (omega arith)
fills (suc width) (suc room) n rest within small =
    let more : 16 ^ suc (suc width) ≡ 16 ^ suc width * 16 = pow-suc 16 (suc width) in
    fills_more (suc room) (suc width) n rest (n / 16 == 0) refl
    (fills width room (n / 16) (digit_glyph true (n % 16) ∷ rest) (omega arith) (omega arith))

digits_is : (room n : ℕ) → room ≡ 64 → digits 16 true n ≡ digits_onto room 16 true n []
unfolding digits
digits_is room n e = rw e refl

zero_filled : (width : ℕ) (numeral : List ℕ)
    → padded_integral (format_spec 32 0 4 width (2 ^ 64 - 1)) false [] numeral
    ≡ replicate (width + 0 - length numeral) 48 ++ numeral
unfolding padded_integral char_count
zero_filled width numeral =
    let filled : width - length numeral - 0 - char_count [] ≡ width + 0 - length numeral =
    omega arith in
    rw (filled, append-nil numeral) refl

-- `{:0wX}` for a width from 1 to 64
pub padded_hex : (width n room : ℕ) → suc room ≡ 64 → width ≤ room → n < 16 ^ suc width
    → padded_integral (format_spec 32 0 4 (suc width) (2 ^ 64 - 1)) false [] (digits 16 true n)
    ≡ hex_digits (suc width) n
padded_hex width n room whole within small =
    rw (digits_is (suc room) n whole, zero_filled) (fills width room n [] within small
    ∙ append-nil (hex_digits (suc width) n))
