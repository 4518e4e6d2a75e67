-- Lists in which each element comes once.
use Rattle.std.proofs.Common.{◌≡◌, ◌∙◌, ◌||◌, ℕ, zero, suc, Bool, true, false, List, [], ◌∷◌, ◌++◌, refl, sym, take}
use Rattle.std.specs.Bool.{Decides, one_answer}
use Rattle.std.specs.List.{AllByRecursion, IsDistinct, list_any}

-- both tests fail, if either would do
or_false : (one other : Bool) → (one || other) ≡ false → (one ≡ false) × (other ≡ false)
or_false false other none = (refl, none)
or_false true other none = cc

all_push : {X : Type 0} (P : X → Type 0) (xs : List X) (x : X) → AllByRecursion P xs → P x
    → AllByRecursion P (xs ++ x ∷ [])
all_push P [] x all last = (last, tt)
all_push P (y ∷ ys) x all last = (all.0, all_push P ys x all.1 last)

pub all_take : {X : Type 0} (P : X → Type 0) (n : ℕ) (xs : List X) → AllByRecursion P xs
    → AllByRecursion P (take n xs)
all_take P zero xs all = tt
all_take P (suc n) [] all = tt
all_take P (suc n) (x ∷ xs) all = (all.0, all_take P n xs all.1)

-- one more element, which is none of the others
pub distinct_push : {X : Type 0} (equal : X → X → Bool) (xs : List X) (x : X)
    → IsDistinct equal xs → list_any (λ y. equal y x) xs ≡ false
    → IsDistinct equal (xs ++ x ∷ [])
unfolding IsDistinct
distinct_push equal [] x distinct none = (tt, tt)
distinct_push equal (y ∷ ys) x distinct none =
    let parts = or_false (equal y x) (list_any (λ y. equal y x) ys) none in (
      all_push (λ z. equal y z ≡ false) ys x distinct.0 parts.0,
      distinct_push equal ys x distinct.1 parts.1,
    )

pub distinct_take : {X : Type 0} (equal : X → X → Bool) (n : ℕ) (xs : List X)
    → IsDistinct equal xs → IsDistinct equal (take n xs)
unfolding IsDistinct
distinct_take equal zero xs distinct = tt
distinct_take equal (suc n) [] distinct = tt
distinct_take equal (suc n) (x ∷ xs) distinct = (
  all_take (λ z. equal x z ≡ false) n xs distinct.0,
  distinct_take equal n xs distinct.1,
)

same_flipped : {X : Type 0} (equal : X → X → Bool)
    → ((a b : X) → Decides (equal a b) (a ≡ b)) → (a b : X) → equal a b ≡ equal b a
same_flipped equal decides a b =
    one_answer (equal a b) (equal b a) (decides a b) (
      (λ e. sym ((decides b a).0 e)),
      (λ e. (decides b a).1 (sym e)),
    )

-- one more element in front, which is none of the others
pub distinct_front : {X : Type 0} (equal : X → X → Bool)
    → ((a b : X) → Decides (equal a b) (a ≡ b)) → (x : X) (xs : List X)
    → IsDistinct equal xs → list_any (λ y. equal y x) xs ≡ false → IsDistinct equal (x ∷ xs)
unfolding IsDistinct
distinct_front {X = X} equal decides x xs distinct none = (others xs none, distinct)
  where
    others : (ys : List X) → list_any (λ y. equal y x) ys ≡ false
        → AllByRecursion (λ y. equal x y ≡ false) ys
    others [] none = tt
    others (y ∷ ys) none =
        let parts = or_false (equal y x) (list_any (λ y. equal y x) ys) none in
        (same_flipped equal decides x y ∙ parts.0, others ys parts.1)
