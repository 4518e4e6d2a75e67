-- Hex numbers begin with `$`, which nothing else does.
use Rattle.std.proofs.Common.{◌≡◌, ◌∙◌, ℕ, Bool, true, false, List, [], ◌∷◌, length, refl, sym, ap, Option, Some, None}
use Rattle.std.specs.Prelude.{◌==◌, ◌&&◌, nat_le}
use Rattle.std.specs.Option.{option_map}
use Rattle.std.proofs.lemmas.Bool.{eqb-true}
use Rattle.ga_pack.specs.Model.Token.{as_hex, meaning_of, numeral, ranged}

no_decimal : (rest : List ℕ) → option_map ranged (numeral 10 (36 ∷ rest)) ≡ None
no_decimal rest =
    rw (and_false (nat_le 1 (length (36 ∷ rest)) && nat_le (length (36 ∷ rest)) 8)) refl
  where
    and_false : (b : Bool) → (b && false) ≡ false
    and_false true = refl
    and_false false = refl

means_hex : (rest : List ℕ) (n : ℕ) → numeral 16 rest ≡ Some n → meaning_of (36 ∷ rest) ≡ ranged n
unfolding meaning_of
means_hex rest n e = rw (no_decimal rest, e) refl

-- a text that is a hex number means that number, since no name begins with `$`
pub hex_first : (text : List ℕ) (n : ℕ) → Some (ranged n) ≡ as_hex text → ranged n ≡ meaning_of text
hex_first [] n e = absurd (cc)
hex_first (c ∷ rest) n e = by_first (c == 36) refl
  where
    by_digits : (o : Option ℕ) → numeral 16 rest ≡ o → Some (ranged n) ≡ option_map ranged o
        → ranged n ≡ meaning_of (36 ∷ rest)
    by_digits None f g = absurd (cc)
    by_digits (Some m) f g = let same : ranged n ≡ ranged m = cc in same ∙ sym (means_hex rest m f)

    by_first : (b : Bool) → (c == 36) ≡ b → ranged n ≡ meaning_of (c ∷ rest)
    by_first false f = absurd (false_hex (e ∙ rw f refl))
      where
        false_hex : Some (ranged n) ≡ None → ⊥
        false_hex g = cc
    by_first true f =
        by_digits (numeral 16 rest) refl (e ∙ rw f refl)
        ∙ ap (λ d. meaning_of (d ∷ rest)) (sym (eqb-true c 36 f))
