-- Numbers in decimal digits.
use Rattle.std.proofs.Common.{◌≡◌, ℕ, ◌^◌, ◌<◌, ◌≤◌, true, List, take, drop, arith, lit<}
use Rattle.std.proofs.Math.Nat.{pow-le-pow_right}
use Rattle.std.specs.List.{list_all}
use Rattle.std.specs.Prelude.{◌&&◌, nat_lt}
use Rattle.ga_debug.specs.Word.{decimal_from}

-- what a loop over the digits knows of the first ones
pub record NumberSoFar (word : List ℕ) (place number : ℕ) : Type 0 where
  pub digits : list_all (λ c. nat_lt 47 c && nat_lt c 58) (take place word) ≡ true
  pub value : decimal_from number (drop place word) ≡ decimal_from 0 word
  pub small : number < 10 ^ place

-- eight digits leave room for a ninth
pub room_for_ninth : (number place : ℕ) → place < 9 → number < 10 ^ place → number < 10 ^ 8
room_for_ninth number place within small =
    let most : 10 ^ place ≤ 10 ^ 8 =
    pow-le-pow_right {n = 10} (lit< tt) {i = place} {j = 8} (omega arith) in omega (arith, most)
