-- Texts that are written line by line.
use Rattle.std.proofs.Common.{◌≡◌, ◌∙◌, ℕ, zero, suc, ◌+◌, ◌<◌, List, [], ◌∷◌, ◌++◌, length, get_or, drop, ap, sym, arith, add-one, append-nil, append_assoc}
use Rattle.std.proofs.lemmas.Grind.{flat_map-append}
use Rattle.std.proofs.lemmas.List.{at_drop_more}
use Rattle.std.specs.List.{flat_map, range_with_len}

counting : (a n : ℕ) → range_with_len a (suc n) ≡ range_with_len a n ++ (a + n) ∷ []
counting a zero = let same : a ≡ a + 0 = omega arith in ap (λ k. k ∷ []) same
counting a (suc n) =
    let same : a + 1 + n ≡ a + suc n = omega arith in
    ap (λ ks. a ∷ ks) (counting (a + 1) n ∙ ap (λ k. range_with_len (a + 1) n ++ k ∷ []) same)

-- one line more of those that are numbered from 0
pub next_line : {A : Type 0} (f : ℕ → List A) (n : ℕ)
    → flat_map f (range_with_len 0 (n + 1)) ≡ flat_map f (range_with_len 0 n) ++ f n
next_line f n =
    let is : 0 + n ≡ n = omega arith in
    ap (λ count. flat_map f (range_with_len 0 count)) (add-one n) ∙ ap (flat_map f) (counting 0 n)
    ∙ flat_map-append f (range_with_len 0 n) ((0 + n) ∷ [])
    ∙ ap (λ line. flat_map f (range_with_len 0 n) ++ line) (append-nil (f (0 + n)) ∙ ap f is)

-- one line more of those of the items of a list
pub line_more : {X : Type 0} (f : X → List ℕ) (xs : List X) (i : ℕ) (d : X) (old new whole : List ℕ)
    → i < length xs → old ++ flat_map f (drop i xs) ≡ whole → new ≡ old ++ f (get_or xs i d)
    → new ++ flat_map f (drop (i + 1) xs) ≡ whole
line_more f xs i d old new whole within so_far wrote =
    ap (λ text. text ++ flat_map f (drop (i + 1) xs)) wrote
    ∙ append_assoc old (f (get_or xs i d)) (flat_map f (drop (i + 1) xs))
    ∙ ap (λ text. old ++ text) (sym (at_drop_more (flat_map f) xs i d within)) ∙ so_far

-- two parts, one behind the other
pub parts : (old middle new first second : List ℕ) → middle ≡ old ++ first → new ≡ middle ++ second
    → new ≡ old ++ (first ++ second)
parts old middle new first second e f =
    f ∙ ap (λ text. text ++ second) e ∙ append_assoc old first second
