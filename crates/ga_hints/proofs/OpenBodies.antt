-- The first body that has no `end`, by tokens that are borrowed.
use Rattle.std.proofs.Common.{◌≡◌, ◌∙◌, ℕ, Bool, true, false, cond, List, [], ◌∷◌, Bor, drop, map, not, refl, ap, sym}
use Rattle.std.specs.Prelude.{codes}
use Rattle.std.specs.List.{onto_first, position, slice_split}
use Rattle.std.specs.Str.{bytes_eq}
use Rattle.std.proofs.lemmas.List.{drop-map}
use Rattle.ga_hints.specs.Bodies.{first_open, has_end}
use Rattle.ga_hints.proofs.Lists.{now, position_map}

module _ {X Y : Type 0} (f : X → Y) where
  onto_map : (x : X) (parts : List (List X))
      → map (map f) (onto_first x parts) ≡ onto_first (f x) (map (map f) parts)
  onto_map x [] = refl
  onto_map x (part ∷ parts) = refl

  split_by : (x : X) (parts : List (List X)) (others : List (List Y)) (b : Bool)
      → map (map f) parts ≡ others
      → map (map f) (cond b ([] ∷ parts) (onto_first x parts))
      ≡ cond b ([] ∷ others) (onto_first (f x) others)
  split_by x parts others true same = ap (λ ys. [] ∷ ys) same
  split_by x parts others false same = onto_map x parts ∙ ap (onto_first (f x)) same

  -- the parts of a list, each seen through a function
  split_map : (p : Y → Bool) (xs : List X)
      → map (map f) (slice_split (λ x. p (f x)) xs) ≡ slice_split p (map f xs)
  split_map p [] = refl
  split_map p (x ∷ xs) =
      split_by x (slice_split (λ x. p (f x)) xs) (slice_split p (map f xs)) (p (f x))
      (split_map p xs)

pub first_found : (tokens : List (Bor (List ℕ)))
    → position (λ body. not (has_end (map now body)))
    (drop 1 (slice_split (λ token. bytes_eq token.now (codes "body")) tokens))
    ≡ first_open (map now tokens)
first_found tokens =
    let parts = slice_split (λ (token : Bor (List ℕ)). bytes_eq token.now (codes "body")) tokens in
    sym (position_map (map now) (λ body. not (has_end body)) (drop 1 parts))
    ∙ ap (position (λ body. not (has_end body))) (sym (drop-map (map now) 1 parts)
    ∙ ap (drop 1) (split_map now (λ token. bytes_eq token (codes "body")) tokens))
