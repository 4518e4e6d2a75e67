-- The item at a place of an iterator that gives a list.
use Rattle.std.proofs.Common.{◌≡◌, ◌∙◌, ℕ, List, length, get_or, ap, arith, refl, subst, sym}
use Rattle.std.specs.Prelude.{MatchOption, Option, Some, None}
use Rattle.std.specs.Iterator.{SkipsThenYields}
use Rattle.std.proofs.lemmas.List.{get_or_default, get_or_past}
use Rattle.std.proofs.lemmas.Iterator.{YieldsList}
use Rattle.std.proofs.lemmas.Iterator.Consumers.{YieldsList-end, YieldsList-turn}

-- it is the list's item there, or the list ends before
nth_item : {S A B : Type 0} {steps : S → Option A → S → Type 0} {v : A → B} {s : S} {all : List B}
    → YieldsList steps v s all → (n : ℕ) (default : B) (item : Option A) (after : S)
    → SkipsThenYields steps s n item after
    → MatchOption item (default ≡ get_or all n default) (λ x. v x ≡ get_or all n default)
nth_item {all = all} gives n default None after (xs, (t, y, step), few) =
    let end = YieldsList-end gives xs t y None after refl step in
    sym (get_or_past all n default (omega (arith, end.1, few)))
nth_item {v = v} {all = all} gives n default (Some x) after (xs, (t, y, step), is) =
    let turn = YieldsList-turn gives xs t y (Some x) after x refl step in
    turn.1 ∙ get_or_default all (length xs) (v x) default turn.0 ∙ ap (λ k. get_or all k default) is

pub nth_some : {S A B : Type 0} {steps : S → Option A → S → Type 0} {v : A → B} {s : S}
    {all : List B} → YieldsList steps v s all
    → (n : ℕ) (default : B) (item : Option A) (x : A) (after : S) → item ≡ Some x
    → SkipsThenYields steps s n item after → v x ≡ get_or all n default
nth_some {v = v} {all = all} gives n default item x after is steps =
    subst (λ i. MatchOption i (default ≡ get_or all n default) (λ x. v x ≡ get_or all n default)) is
    (nth_item gives n default item after steps)

pub nth_none : {S A B : Type 0} {steps : S → Option A → S → Type 0} {v : A → B} {s : S}
    {all : List B} → YieldsList steps v s all → (n : ℕ) (default : B) (item : Option A) (after : S)
    → item ≡ None → SkipsThenYields steps s n item after → default ≡ get_or all n default
nth_none {v = v} {all = all} gives n default item after is steps =
    subst (λ i. MatchOption i (default ≡ get_or all n default) (λ x. v x ≡ get_or all n default)) is
    (nth_item gives n default item after steps)
