-- What a search in a list finds.
use Rattle.std.proofs.Common.{◌≡◌, Bool, true, false, cond, List, [], ◌∷◌, Option, Some, refl, find}
use Rattle.std.specs.Prelude.{IfSome}

chosen_passes : {X : Type 0} (p : X → Bool) (x : X) (found : Option X) (b : Bool) → p x ≡ b
    → IfSome found (λ y. p y ≡ true) → IfSome (cond b (Some x) found) (λ y. p y ≡ true)
chosen_passes p x found true e h = e
chosen_passes p x found false e h = h

-- what a search finds passes its test
pub find_passes : {X : Type 0} (p : X → Bool) (xs : List X) → IfSome (find p xs) (λ x. p x ≡ true)
find_passes p [] = tt
find_passes p (x ∷ xs) = chosen_passes p x (find p xs) (p x) refl (find_passes p xs)
