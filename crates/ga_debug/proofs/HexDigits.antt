-- Numbers in hex digits.
use Rattle.std.proofs.Common.{◌≡◌, ℕ, ◌^◌, ◌<◌, ◌≤◌, true, List, take, drop, arith, lit<}
use Rattle.std.proofs.Math.Nat.{pow-le-pow_right}
use Rattle.std.specs.Char.{is_digit}
use Rattle.std.specs.List.{list_all}
use Rattle.ga_debug.specs.Values.{hex_from}

-- what a loop over the digits knows of the first ones
pub record HexSoFar (word : List ℕ) (place number : ℕ) : Type 0 where
  pub digits : list_all (λ c. is_digit c 16) (take place word) ≡ true
  pub value : hex_from number (drop place word) ≡ hex_from 0 word
  pub small : number < 16 ^ place

-- four digits leave room for a fifth
pub room_for_fifth : (number place : ℕ) → place < 5 → number < 16 ^ place → number < 16 ^ 4
room_for_fifth number place within small =
    let most : 16 ^ place ≤ 16 ^ 4 =
    pow-le-pow_right {n = 16} (lit< tt) {i = place} {j = 4} (omega arith) in omega (arith, most)
