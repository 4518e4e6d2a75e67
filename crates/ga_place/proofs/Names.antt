-- Names of nodes of which no two are equal are 144 at most.
use Rattle.std.proofs.Common.{◌≡◌, ◌∙◌, ℕ, ◌==◌, ◌<◌, ◌≤◌, Bool, true, false, ◌||◌, List, [], ◌∷◌, length, map, get_or, zero-add, refl, sym, ap, subst, arith}
use Rattle.std.specs.List.{AllByRecursion, IsDistinct, range_with_len}
use Rattle.std.specs.Set.{is_member}
use Rattle.std.proofs.lemmas.Bool.{true≢false, eqb-true}
use Rattle.std.proofs.lemmas.Cmp.{nat_eq_equiv}
use Rattle.std.proofs.lemmas.List.FromFn.{get_or-map-range_with_len}
use Rattle.std.proofs.lemmas.List.Folds.{list_any_at}
use Rattle.std.proofs.lemmas.Map.Made.{length-le_from_is_member}
use Rattle.ga_place.specs.Cell.{index_of, name_at}
use Rattle.ga_place.specs.Node.{IsNodeName, is_among}
use Rattle.ga_place.proofs.Cells.{index_below, name_back}

all_nodes : List ℕ
all_nodes = map name_at (range_with_len 0 144)

how_many : length all_nodes ≡ 144
unfolding all_nodes
how_many = refl

at_index : (name : ℕ) → IsNodeName name → get_or all_nodes (index_of name) 0 ≡ name
unfolding all_nodes
at_index name named =
    get_or-map-range_with_len name_at 0 144 (index_of name) (index_of name) 0
    (index_below name named) (zero-add (index_of name)) ∙ name_back name (index_below name named)

among_all : (name : ℕ) → IsNodeName name → is_member ◌==◌ all_nodes name ≡ true
among_all name named =
    list_any_at (λ other. name == other) all_nodes (index_of name) 0
    (subst (λ n. index_of name < n) (sym how_many) (index_below name named))
    (ap (λ n. name == n) (at_index name named) ∙ nat_eq_equiv.refl name)

each : (names : List ℕ) → AllByRecursion IsNodeName names → (q : ℕ) → is_member ◌==◌ names q ≡ true
    → is_member ◌==◌ all_nodes q ≡ true
each [] named q e = absurd (true≢false (sym e))
each (name ∷ names) named q e = by (q == name) refl (each names named.1 q) e
  where
    by : (b : Bool) → (q == name) ≡ b
        → (is_member ◌==◌ names q ≡ true → is_member ◌==◌ all_nodes q ≡ true)
        → (b || is_member ◌==◌ names q) ≡ true → is_member ◌==◌ all_nodes q ≡ true
    by true t behind e =
        subst (λ n. is_member ◌==◌ all_nodes n ≡ true) (sym (eqb-true q name t))
        (among_all name named.0)
    by false t behind e = behind e

-- a name that isn't among others differs from each of them
pub apart : (name : ℕ) (names : List ℕ) → is_among name names ≡ false
    → AllByRecursion (λ y. (name == y) ≡ false) names
apart name [] e = tt
apart name (other ∷ names) e = by (other == name) refl (apart name names) e
  where
    by : (b : Bool) → (other == name) ≡ b
        → (is_among name names ≡ false → AllByRecursion (λ y. (name == y) ≡ false) names)
        → (b || is_among name names) ≡ false
        → AllByRecursion (λ y. (name == y) ≡ false) (other ∷ names)
    by true t behind e = absurd (true≢false e)
    by false t behind e = (nat_eq_equiv.symm name other ∙ t, behind e)

pub few_names : (names : List ℕ) → IsDistinct ◌==◌ names → AllByRecursion IsNodeName names
    → length names ≤ 144
few_names names distinct named =
    let most = length-le_from_is_member nat_eq_equiv names all_nodes distinct (each names named) in
    omega (arith, most, how_many)
