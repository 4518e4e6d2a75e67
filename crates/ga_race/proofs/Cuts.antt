-- Two lists behind one another, cut in two at an element.
use Rattle.std.proofs.Common.{◌≡◌, List, [], ◌∷◌, ◌++◌, ◌⊎◌, inl, inr, refl, sym, ap, ◌∙◌, append-nil}

-- an empty list has no element
nothing_there : {A : Type 0} (xs later : List A) (x : A) → [] ≡ xs ++ x ∷ later → ⊥
nothing_there [] later x e = cc
nothing_there (y ∷ xs) later x e = cc

-- A cut is in the first list, or in the second.
abbrev pub Cut : {A : Type 0} → List A → List A → List A → A → List A → Type 0
Cut {A = A} xs ys before x later =
    ((rest : List A) × (xs ≡ before ++ x ∷ rest) × (later ≡ rest ++ ys))
    ⊎ ((rest : List A) × (before ≡ xs ++ rest) × (ys ≡ rest ++ x ∷ later))

-- each cut is in one of the two lists
pub cut : {A : Type 0} (xs ys before later : List A) (x : A) → xs ++ ys ≡ before ++ x ∷ later
    → Cut xs ys before x later
cut [] ys before later x e = inr (before, refl, e)
cut (z ∷ xs) ys [] later x e = let same : z ≡ x = cc in inl (xs, ap (λ w. w ∷ xs) same, cc)
cut (z ∷ xs) ys (y ∷ before) later x e = joined (cut xs ys before later x (cc))
  where
    same : z ≡ y
    same = cc

    joined : Cut xs ys before x later → Cut (z ∷ xs) ys (y ∷ before) x later
    joined (inl (rest, f, g)) = inl (rest, cc, g)
    joined (inr (rest, f, g)) = inr (rest, cc, g)

-- If the second list has one element, a cut is in the first list, or at that element.
abbrev pub LastCut : {A : Type 0} → List A → A → List A → A → List A → Type 0
LastCut {A = A} xs last before x later =
    ((rest : List A) × (xs ≡ before ++ x ∷ rest) × (later ≡ rest ++ last ∷ []))
    ⊎ ((xs ≡ before) × (last ≡ x))

-- each cut is in the first list, or at the last element
pub last_cut : {A : Type 0} (xs before later : List A) (last x : A)
    → xs ++ last ∷ [] ≡ before ++ x ∷ later → LastCut xs last before x later
last_cut {A = A} xs before later last x e = by (cut xs (last ∷ []) before later x e)
  where
    at : (rest : List A) → before ≡ xs ++ rest → last ∷ [] ≡ rest ++ x ∷ later
        → LastCut xs last before x later
    at [] f g = inr (sym (f ∙ append-nil xs), cc)
    at (y ∷ rest) f g = absurd (nothing_there rest later x (cc))

    by : Cut xs (last ∷ []) before x later → LastCut xs last before x later
    by (inl whole) = inl whole
    by (inr (rest, f, g)) = at rest f g
