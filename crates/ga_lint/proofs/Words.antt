-- The warnings about the words of a node, one after the other.
use Rattle.std.proofs.Common.{◌≡◌, ◌∙◌, ℕ, zero, suc, ◌+◌, List, [], ◌∷◌, ◌++◌, ap, sym, arith, add-one, append-nil, append_assoc}
use Rattle.std.proofs.lemmas.Grind.{flat_map-append}
use Rattle.std.specs.List.{flat_map, range_with_len}

counting : (a n : ℕ) → range_with_len a (suc n) ≡ range_with_len a n ++ (a + n) ∷ []
counting a zero = let same : a ≡ a + 0 = omega arith in ap (λ k. k ∷ []) same
counting a (suc n) =
    let same : a + 1 + n ≡ a + suc n = omega arith in
    ap (λ ks. a ∷ ks) (counting (a + 1) n ∙ ap (λ k. range_with_len (a + 1) n ++ k ∷ []) same)

-- what a number more gives, of those from 0 on
next_number : {A : Type 0} (f : ℕ → List A) (n : ℕ)
    → flat_map f (range_with_len 0 (n + 1)) ≡ flat_map f (range_with_len 0 n) ++ f n
next_number f n =
    let is : 0 + n ≡ n = omega arith in
    ap (λ count. flat_map f (range_with_len 0 count)) (add-one n) ∙ ap (flat_map f) (counting 0 n)
    ∙ flat_map-append f (range_with_len 0 n) ((0 + n) ∷ [])
    ∙ ap (λ line. flat_map f (range_with_len 0 n) ++ line) (append-nil (f (0 + n)) ∙ ap f is)

-- the same behind what was there before
pub one_more : {A : Type 0} (f : ℕ → List A) (n : ℕ) (old text new : List A)
    → text ≡ old ++ flat_map f (range_with_len 0 n) → new ≡ text ++ f n
    → new ≡ old ++ flat_map f (range_with_len 0 (n + 1))
one_more f n old text new so_far added =
    added ∙ ap (λ t. t ++ f n) so_far ∙ append_assoc old (flat_map f (range_with_len 0 n)) (f n)
    ∙ ap (λ t. old ++ t) (sym (next_number f n))
