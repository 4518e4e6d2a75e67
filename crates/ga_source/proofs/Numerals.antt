-- The number that the digits so far write.
use Rattle.std.proofs.Common.{◌≡◌, ◌∙◌, ◌+◌, ◌*◌, ◌^◌, ◌≤◌, ◌<◌, ℕ, Bool, true, false, List, [], ◌∷◌, length, drop, get_or, refl, sym, ap, arith, add-one}
use Rattle.std.specs.Prelude.{◌&&◌, nat_le, if◌then◌else◌, Option, Some, None}
use Rattle.std.specs.Char.{digit_value, is_digit}
use Rattle.std.specs.List.{list_all}
use Rattle.std.specs.Str.Parse.{digits_value, digits_value_after}
use Rattle.std.proofs.Math.Nat.{mul-le-mul_left, pow-le-pow_right, pow-suc}
use Rattle.std.proofs.Math.Seq.{drop-cons}
use Rattle.std.proofs.lemmas.List.{drop_all}
use Rattle.std.proofs.lemmas.Bool.{le-leb, ltb-true}
use Rattle.ga_pack.specs.Model.Token.{numeral}

-- `index` digits are read, and `number` is what they write
pub record ReadsDigits (radix : ℕ) (digits : List ℕ) (index number : ℕ) : Type 0 where
  pub small : number < 16 ^ index
  pub value : digits_value radix digits ≡ digits_value_after radix number (drop index digits)
  pub all : list_all (λ c. is_digit c radix) digits
      ≡ list_all (λ c. is_digit c radix) (drop index digits)

pub small_number : (radix : ℕ) (digits : List ℕ) (index number : ℕ)
    → ReadsDigits radix digits index number → index < 8 → number < 16 ^ 7
small_number radix digits index number reads le =
    let more = pow-le-pow_right {n = 16} (omega arith) {i = index} {j = 7} (omega arith) in
    let small = reads.small in omega arith

digit_below : (radix d : ℕ) → is_digit d radix ≡ true → digit_value d < radix
digit_below radix d e = ltb-true (digit_value d) radix e

pub more_digits : (radix : ℕ) (digits : List ℕ) (index number d digit : ℕ)
    → ReadsDigits radix digits index number → index < length digits → radix ≤ 16
    → d ≡ get_or digits index 0 → is_digit d radix ≡ true → digit ≡ digit_value d
    → ReadsDigits radix digits (index + 1) (number * radix + digit)
more_digits radix digits index number d digit reads inside sixteen at is_one value =
    let rest : drop index digits ≡ d ∷ drop (index + 1) digits =
    rw (at, add-one) (drop-cons digits index 0 inside) in
    let below : digit < radix = rw value (digit_below radix d is_one) in
    let product : number * radix ≤ number * 16 = mul-le-mul_left number sixteen in
    let power : 16 ^ (index + 1) ≡ 16 ^ index * 16 = rw add-one (pow-suc 16 index) in
    let small = reads.small in
    record {
      small = omega arith;
      value = reads.value ∙ ap (digits_value_after radix number) rest
          ∙ ap (λ (v : ℕ). digits_value_after radix (number * radix + v) (drop (index + 1) digits))
          (sym value);
      all = reads.all ∙ ap (list_all (λ c. is_digit c radix)) rest ∙ ap
          (λ (t : Bool). t && list_all (λ c. is_digit c radix) (drop (index + 1) digits)) is_one;
    }

-- one of them is no digit
pub no_digit : (radix : ℕ) (digits : List ℕ) (index number d : ℕ)
    → ReadsDigits radix digits index number → index < length digits → d ≡ get_or digits index 0
    → is_digit d radix ≡ false → numeral radix digits ≡ None
no_digit radix digits index number d reads inside at is_none =
    let rest : drop index digits ≡ d ∷ drop (index + 1) digits =
    rw (at, add-one) (drop-cons digits index 0 inside) in
    let none : list_all (λ c. is_digit c radix) digits ≡ false =
    reads.all ∙ ap (list_all (λ c. is_digit c radix)) rest
    ∙ ap (λ (t : Bool). t && list_all (λ c. is_digit c radix) (drop (index + 1) digits)) is_none in
    ap (λ (t : Bool). if nat_le 1 (length digits) && nat_le (length digits) 8 && t
    then Some (digits_value radix digits) else None) none
    ∙ never (nat_le 1 (length digits) && nat_le (length digits) 8) (digits_value radix digits)
  where
    never : (b : Bool) (n : ℕ) → ◌≡◌ {A = Option ℕ} (if b && false then Some n else None) None
    never true n = refl
    never false n = refl

-- all of them are read
pub all_digits : (radix : ℕ) (digits : List ℕ) (index number : ℕ)
    → ReadsDigits radix digits index number → length digits ≤ index → 1 ≤ length digits
    → length digits ≤ 8 → numeral radix digits ≡ Some number
all_digits radix digits index number reads end few many =
    let nothing : drop index digits ≡ [] = drop_all index digits end in
    let all : list_all (λ c. is_digit c radix) digits ≡ true =
    reads.all ∙ ap (list_all (λ c. is_digit c radix)) nothing in
    let value : digits_value radix digits ≡ number =
    reads.value ∙ ap (digits_value_after radix number) nothing in
    let one = le-leb 1 (length digits) few in
    let eight = le-leb (length digits) 8 many in
    rw (one, eight, all, value) refl
