-- The first place at which a test passes.
use Rattle.std.proofs.Common.{◌≡◌, ◌∙◌, ℕ, suc, ◌+◌, ◌<◌, ◌≤◌, drop, get_or, Bool, true, not, Some, None, List, [], ◌∷◌, cond, length, map, refl, sym, ap, ap₂}
use Rattle.std.specs.Prelude.{nat_lt}
use Rattle.std.proofs.lemmas.List.{drop_all, length-map}
use Rattle.std.specs.List.{position, position_from, position_or_len}
use Rattle.std.proofs.lemmas.Iterator.Adapters.{position_from-zero}
use Rattle.std.proofs.Math.Seq.{drop-cons}

place_of_mapped : {X Y : Type 0} (f : X → Y) (p : Y → Bool) (xs : List X)
    → position_or_len p (map f xs) ≡ position_or_len (λ x. p (f x)) xs
place_of_mapped f p [] = refl
place_of_mapped f p (x ∷ xs) =
    ap (λ n. cond (not (p (f x))) (1 + n) 0) (place_of_mapped f p xs)

-- that of a list of values of other ones
pub position_mapped : {X Y : Type 0} (f : X → Y) (p : Y → Bool) (xs : List X)
    → position p (map f xs) ≡ position (λ x. p (f x)) xs
position_mapped f p xs =
    ap₂ (λ n m. cond (nat_lt n m) (Some n) None) (place_of_mapped f p xs) (length-map xs f)

position_by : {X : Type 0} (p : X → Bool) (xs : List X) → position p xs ≡ position_from p 0 xs
position_by p xs = position_from-zero p xs

-- a place at which it passes, and none before
pub found_at : {X : Type 0} (p : X → Bool) (xs : List X) (i : ℕ) (x : X) → i < length xs
    → x ≡ get_or xs i x → p x ≡ true
    → position_from p i (drop i xs) ≡ position_from p 0 xs → Some i ≡ position p xs
found_at p xs i x within is passes before =
    let here : p (get_or xs i x) ≡ true = ap p (sym is) ∙ passes in
    let left : position_from p i (drop i xs) ≡ Some i =
    ap (position_from p i) (drop-cons xs i x within)
    ∙ ap (λ b. cond b (Some i) (position_from p (i + 1) (drop (suc i) xs))) here in
    sym (position_by p xs ∙ sym before ∙ left)

pub found_nowhere : {X : Type 0} (p : X → Bool) (xs : List X) (i : ℕ) → length xs ≤ i
    → position_from p i (drop i xs) ≡ position_from p 0 xs → None ≡ position p xs
found_nowhere p xs i past before =
    sym (position_by p xs ∙ sym before ∙ ap (position_from p i) (drop_all i xs past))
