-- The number that the digits so far write.
use Rattle.std.proofs.Common.{◌≡◌, ◌∙◌, ◌+◌, ◌*◌, ◌^◌, ◌≤◌, ◌<◌, ℕ, true, List, length, take, get_or, sym, ap, arith, add-one}
use Rattle.std.specs.Char.{digit_value, is_digit}
use Rattle.std.specs.List.{list_all}
use Rattle.std.specs.Str.Parse.{digits_value}
use Rattle.std.proofs.Math.Nat.{mul-le-mul_left, pow-le-pow_right, pow-suc}
use Rattle.std.proofs.lemmas.Bool.{and_from, ltb-true}
use Rattle.std.proofs.lemmas.Int.Digits.{digits_value_more}
use Rattle.std.proofs.lemmas.List.Folds.{list_all_more}

-- `index` digits are read, and `number` is what they write
pub record ReadsDigits (radix : ℕ) (digits : List ℕ) (index number : ℕ) : Type 0 where
  pub small : number < radix ^ index
  pub value : number ≡ digits_value radix (take index digits)
  pub all : list_all (λ c. is_digit c radix) (take index digits) ≡ true

digit_below : (radix d : ℕ) → is_digit d radix ≡ true → digit_value d < radix
digit_below radix d e = ltb-true (digit_value d) radix e

-- one more digit stays below the next power
pub one_more : (radix index number digit : ℕ) → number < radix ^ index → digit < radix
    → number * radix + digit < radix ^ (index + 1)
one_more radix index number digit small below =
    let product : radix * (number + 1) ≤ radix * radix ^ index =
    mul-le-mul_left radix (omega (arith, small)) in
    let power : radix ^ (index + 1) ≡ radix ^ index * radix = rw add-one (pow-suc radix index) in
    omega (arith, product, power, below)

pub in_room : (radix index most : ℕ) → 2 ≤ radix → index < most
    → radix ^ (index + 1) ≤ radix ^ most
in_room radix index most two inside =
    pow-le-pow_right {n = radix} (omega (arith, two)) {i = index + 1} {j = most}
    (omega (arith, inside))

pub more_digits : (radix : ℕ) (digits : List ℕ) (index number d digit : ℕ)
    → ReadsDigits radix digits index number → index < length digits
    → d ≡ get_or digits index 0 → is_digit d radix ≡ true → digit ≡ digit_value d
    → ReadsDigits radix digits (index + 1) (number * radix + digit)
more_digits radix digits index number d digit reads inside at is_one value =
    let below : digit < radix = rw value (digit_below radix d is_one) in
    record {
      small = one_more radix index number digit reads.small below;
      value = ap (λ (n : ℕ). n * radix + digit) reads.value
          ∙ ap (λ (n : ℕ). digits_value radix (take index digits) * radix + n)
          (value ∙ ap digit_value at) ∙ sym (digits_value_more radix digits index inside);
      all = list_all_more (λ c. is_digit c radix) digits index 0 inside
          ∙ and_from (list_all (λ c. is_digit c radix) (take index digits))
          (is_digit (get_or digits index 0) radix) reads.all
          (ap (λ (c : ℕ). is_digit c radix) (sym at) ∙ is_one);
    }
