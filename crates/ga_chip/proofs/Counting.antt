-- Numbers for the sides, in a list.
use Rattle.std.proofs.Common.{◌≡◌, ℕ, ◌+◌, List, [], ◌∷◌, get_or, length, refl, set}
use Rattle.ga_place.specs.declared.side.Side.{Side}
use Rattle.ga_place.specs.declared.side.Side.TheVariants.{Right, Down, Left, Up}
use Rattle.ga_chip.specs.Part.{count_at, counted}
use Rattle.ga_chip.specs.inner.Counts.{by_sides}
use Rattle.ga_chip.specs.inner.Port.{number_of}

pub one_at : (numbers : List ℕ) (side : Side)
    → count_at side (by_sides numbers) ≡ get_or numbers (number_of side) 0
one_at numbers Right = refl
one_at numbers Down = refl
one_at numbers Left = refl
one_at numbers Up = refl

pub one_more : (numbers : List ℕ) (side : Side) → length numbers ≡ 4
    → by_sides (set numbers (number_of side) (get_or numbers (number_of side) 0 + 1))
    ≡ counted side (by_sides numbers)
one_more (right ∷ down ∷ left ∷ up ∷ []) Right four = refl
one_more (right ∷ down ∷ left ∷ up ∷ []) Down four = refl
one_more (right ∷ down ∷ left ∷ up ∷ []) Left four = refl
one_more (right ∷ down ∷ left ∷ up ∷ []) Up four = refl
one_more [] side four = cc
one_more (right ∷ []) side four = cc
one_more (right ∷ down ∷ []) side four = cc
one_more (right ∷ down ∷ left ∷ []) side four = cc
one_more (right ∷ down ∷ left ∷ up ∷ more ∷ others) side four = cc
