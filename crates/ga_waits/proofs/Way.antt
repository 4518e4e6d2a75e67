-- A node is one further behind than the node that it waits for, unless it is in a ring.
use Rattle.std.proofs.Common.{◌≡◌, ◌∙◌, ◌⊎◌, inl, inr, ◌<◌, ◌≤◌, ℕ, zero, suc, ◌+◌, ◌-◌, true, Option, Some, None, refl, sym, ap, subst, eq-eqb, arith}
use Rattle.std.specs.Prelude.{◌==◌, if◌then◌else◌}
use Rattle.std.specs.Option.{unwrap_or}
use Rattle.std.proofs.lemmas.Bool.{cases_order}
use Rattle.indexmap.proofs.IndexTableLemmas.Probe.{pigeonhole}
use Rattle.ga_pack.proofs.ByCases.{on_test}
use Rattle.ga_place.specs.Cell.{index_of, name_at}
use Rattle.ga_place.specs.Node.{is_node_name}
use Rattle.ga_waits.proofs.Largest.{back}
use Rattle.ga_waits.specs.Causes.{comes_back, distance_in, distance_of, is_in_ring, leader_of}

-- ---- the way from a node by the leader of each

-- its node with a number, from 0 on, if it has one
abbrev way : (ℕ → Option ℕ) → ℕ → ℕ → ℕ
way next name zero = name
way next name (suc k) = way next (unwrap_or (leader_of next name) 0) k

-- it has at least this many nodes behind the first
abbrev HasWay : (ℕ → Option ℕ) → ℕ → ℕ → Type 0
HasWay next name n =
    (k : ℕ) → k < n → leader_of next (way next name k) ≡ Some (way next name (suc k))

has_way : (next : ℕ → Option ℕ) (fuel name : ℕ) (from : Option ℕ) → leader_of next name ≡ from
    → HasWay next name (distance_in next fuel from)
has_way next zero name None e k h = absurd (omega (arith, h))
has_way next (suc fuel) name None e k h = absurd (omega (arith, h))
has_way next zero name (Some other) e k h = absurd (omega (arith, h))
has_way next (suc fuel) name (Some other) e zero h = e ∙ ap Some (sym (ap (λ o. unwrap_or o 0) e))
has_way next (suc fuel) name (Some other) e (suc k) h =
    subst (λ n. leader_of next (way next n k) ≡ Some (way next n (suc k)))
    (sym (ap (λ o. unwrap_or o 0) e))
    (has_way next fuel other (leader_of next other) refl k (omega (arith, h)))

way_from : (next : ℕ → Option ℕ) (name i d j : ℕ) → i + d ≡ j
    → way next name j ≡ way next (way next name i) d
way_from next name zero d j e =
    let same : j ≡ d = omega (arith, e) in ap (way next name) same
way_from next name (suc i) d zero e = absurd (omega (arith, e))
way_from next name (suc i) d (suc j) e =
    way_from next (unwrap_or (leader_of next name) 0) i d j (omega (arith, e))

-- ---- no node is on it twice

-- a leader is the node that a node waits for, and no node in a ring has one
waits : (next : ℕ → Option ℕ) (name other : ℕ) → leader_of next name ≡ Some other
    → next name ≡ Some other
unfolding leader_of
waits next name other =
    on_test (is_in_ring next name)
    (λ b. (if b then None else next name) ≡ Some other → next name ≡ Some other)
    (λ is e. absurd (cc)) (λ is e. e)

none_in_ring : (next : ℕ → Option ℕ) (name other : ℕ) → leader_of next name ≡ Some other
    → comes_back next name 144 (next name) ≡ true → ⊥
unfolding leader_of is_in_ring
none_in_ring next name other e is =
    let none = ap (λ b. if b then None else next name) is in cc

-- a way that comes to a node leads back to it
comes : (next : ℕ → Option ℕ) (fuel d name target : ℕ) → d < fuel → HasWay next name (suc d)
    → way next name (suc d) ≡ target → comes_back next target fuel (next name) ≡ true
comes next zero d name target less has at = absurd (omega (arith, less))
comes next (suc fuel) zero name target less has at =
    let here = waits next name (way next name 1) (has 0 (omega arith)) in
    ap (comes_back next target (suc fuel)) here
    ∙ ap (λ b. if b then true else comes_back next target fuel (next (way next name 1)))
    (eq-eqb (way next name 1) target at)
comes next (suc fuel) (suc d) name target less has at =
    let other = way next name 1 in
    let rest = comes next fuel d other target (omega (arith, less))
    (λ k h. has (suc k) (omega (arith, h))) at in
    ap (comes_back next target (suc fuel)) (waits next name other (has 0 (omega arith)))
    ∙ on_test (other == target)
    (λ b. (if b then true else comes_back next target fuel (next other)) ≡ true)
    (λ is. refl) (λ is. rest)

apart : (next : ℕ → Option ℕ) (name i j : ℕ) → i < j → j ≤ 144 → HasWay next name 144
    → way next name i ≡ way next name j → ⊥
apart next name i j less most has same =
    let d = j - suc i in
    let first = way next name i in
    let rest = λ (k : ℕ) (h : k < suc d).
    subst (λ n. leader_of next n ≡ Some (way next first (suc k)))
    (way_from next name i k (i + k) refl)
    (has (i + k) (omega (arith, h))
    ∙ ap Some (way_from next name i (suc k) (suc (i + k)) (omega arith))) in
    none_in_ring next first (way next name (suc i)) (has i (omega (arith, less, most)))
    (comes next 144 d first first (omega arith) rest
    (sym (way_from next name i (suc d) j (omega (arith, less))) ∙ sym same))

-- ---- so it has at most all nodes

-- a node that waits for another has the name of a node, and so has the other
pub record AreNodes (next : ℕ → Option ℕ) : Type 0 where
  pub waiting : (name other : ℕ) → next name ≡ Some other → is_node_name name ≡ true
  pub awaited : (name other : ℕ) → next name ≡ Some other → is_node_name other ≡ true

too_long : (next : ℕ → Option ℕ) (name : ℕ) → AreNodes next → HasWay next name 144 → ⊥
too_long next name nodes has =
    omega (arith, pigeonhole 145 144 (λ k. index_of (way next name k)) (λ k h. (at k h).0) one)
  where
    named : (k : ℕ) → k < 145 → is_node_name (way next name k) ≡ true
    named zero h =
        let leader = way next name 1 in
        nodes.waiting name leader (waits next name leader (has 0 (omega arith)))
    named (suc k) h =
        let there = way next name k in
        let behind = way next name (suc k) in
        nodes.awaited there behind (waits next there behind (has k (omega (arith, h))))

    at : (k : ℕ) → k < 145 → (index_of (way next name k) < 144)
        × (name_at (index_of (way next name k)) ≡ way next name k)
    at k h = back (way next name k) (named k h)

    less : (i j : ℕ) → i < j → j < 145 → index_of (way next name i) ≡ index_of (way next name j) → ⊥
    less i j lt h same =
        apart next name i j lt (omega (arith, h)) has
        (sym (at i (omega (arith, lt, h))).1 ∙ ap name_at same ∙ (at j h).1)

    one : (i j : ℕ) → i < 145 → j < 145
        → index_of (way next name i) ≡ index_of (way next name j) → i ≡ j
    one i j hi hj same = by (cases_order i j)
      where
        by : (i ≡ j) ⊎ ((i < j) ⊎ (j < i)) → i ≡ j
        by (inl e) = e
        by (inr (inl lt)) = absurd (less i j lt hj same)
        by (inr (inr lt)) = absurd (less j i lt hi (sym same))

-- ---- and its length is the distance of its first node

none_left : (next : ℕ → Option ℕ) (from : Option ℕ) → distance_in next 0 from ≡ 0
none_left next None = refl
none_left next (Some name) = refl

all_or_ended : (next : ℕ → Option ℕ) (fuel : ℕ) (from : Option ℕ)
    → (distance_in next (suc fuel) from ≡ suc fuel)
    ⊎ (distance_in next fuel from ≡ distance_in next (suc fuel) from)
all_or_ended next zero None = inr refl
all_or_ended next (suc fuel) None = inr refl
all_or_ended next zero (Some name) = inl (ap suc (none_left next (leader_of next name)))
all_or_ended next (suc fuel) (Some name) =
    elim (all_or_ended next fuel (leader_of next name)) [
      | inl all ↦ inl (ap suc all)
      | inr ended ↦ inr (ap suc ended)
    ]

pub one_further : (next : ℕ → Option ℕ) (name other : ℕ) → AreNodes next
    → leader_of next name ≡ Some other → distance_of next name ≡ suc (distance_of next other)
unfolding distance_of
one_further next name other nodes e =
    ap (distance_in next 143) e ∙ elim (all_or_ended next 142 (leader_of next other)) [
      | inl all ↦
          absurd (too_long next name nodes (subst (HasWay next name) (ap suc all)
          (has_way next 144 name (Some other) e)))
      | inr ended ↦ ap suc ended
    ]

-- a distance is less than the number of nodes
pub few_steps : (next : ℕ → Option ℕ) (fuel : ℕ) (from : Option ℕ)
    → distance_in next fuel from ≤ fuel
few_steps next zero from = omega (arith, none_left next from)
few_steps next (suc fuel) None = omega arith
few_steps next (suc fuel) (Some name) = omega (arith, few_steps next fuel (leader_of next name))
