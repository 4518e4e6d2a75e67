-- What a hole of three places with zeros writes of a number.
use Rattle.std.proofs.Common.{◌≡◌, ℕ, ◌+◌, ◌-◌, ◌/◌, ◌%◌, ◌^◌, ◌<◌, ◌≤◌, [], ◌∷◌, arith, inl, inr}
use Rattle.std.proofs.lemmas.Fmt.{decimal_digit, decimal_step}
use Rattle.std.proofs.lemmas.Bool.{cases_lt}
use Rattle.std.specs.Fmt.{char_count, decimal, format_spec, padded_integral, styled_decimal}
use Rattle.ga_place.specs.Node.{node_text}

two_digits : (n : ℕ) → 10 ≤ n → n < 100 → decimal n ≡ (48 + n / 10) ∷ (48 + n % 10) ∷ []
two_digits n above below =
    let tens : n / 10 < 10 = omega arith in
    let small : n < 2 ^ 64 = omega arith in
    rw (decimal_step n above small, decimal_digit (n / 10) tens)

three_digits : (n : ℕ) → 100 ≤ n → n < 1000
    → decimal n ≡ (48 + n / 100) ∷ (48 + n / 10 % 10) ∷ (48 + n % 10) ∷ []
three_digits n above below =
    let step : 10 ≤ n = omega arith in
    let small : n < 2 ^ 64 = omega arith in
    let tens : 10 ≤ n / 10 = omega arith in
    let below_ten : n / 10 < 100 = omega arith in
    let hundreds : n / 10 / 10 ≡ n / 100 = omega arith in
    rw (decimal_step n step small, two_digits (n / 10) tens below_ten, hundreds)

-- one digit behind two zeros, two digits behind one, or three digits
pub three_places : (n : ℕ) → n < 1000
    → styled_decimal (format_spec 32 0 4 3 (2 ^ 64 - 1)) n ≡ node_text n
unfolding padded_integral char_count
three_places n below = elim (cases_lt n 10) [
  | inl one ↦
      let hundreds : n / 100 ≡ 0 = omega arith in
      let tens : n / 10 % 10 ≡ 0 = omega arith in
      let units : n % 10 ≡ n = omega arith in
      rw (decimal_digit n one, hundreds, tens, units)
  | inr more ↦ elim (cases_lt n 100) [
    | inl two ↦
        let hundreds : n / 100 ≡ 0 = omega arith in
        let tens : n / 10 % 10 ≡ n / 10 = omega arith in
        rw (two_digits n more two, hundreds, tens)
    | inr three ↦ rw (three_digits n three below)
  ]
]
