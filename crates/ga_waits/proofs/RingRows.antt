-- The rows that are found are the rings.
use Rattle.std.proofs.Common.{◌≡◌, ◌∙◌, ◌⊎◌, inl, inr, ◌<◌, ◌≤◌, ◌≢◌, ℕ, zero, suc, ◌+◌, true, false, List, [], ◌∷◌, ◌++◌, drop, get_or, length, map, take, Option, Some, None, refl, sym, ap, subst, eq-eqb, arith}
use Rattle.std.specs.Prelude.{◌↔◌, AllPairs, Contains, ◌==◌, nat_lt, if◌then◌else◌}
use Rattle.std.specs.List.{flat_map, range_with_len}
use Rattle.std.specs.List.Sorted.{IsStrictlyIncreasing}
use Rattle.std.proofs.lemmas.Bool.{cases_eq, cases_order, eqb-true}
use Rattle.std.proofs.lemmas.Bool.Decides.{nat_tests}
use Rattle.std.proofs.lemmas.List.{map-append}
use Rattle.std.proofs.lemmas.List.Elements.{Contains-append_cases, Contains-append_left, Contains-append_right}
use Rattle.indexmap.proofs.IndexTableLemmas.Probe.{pigeonhole}
use Rattle.ga_pack.proofs.ByCases.{on_test}
use Rattle.ga_place.specs.Cell.{index_of, name_at}
use Rattle.ga_place.specs.Node.{is_node_name}
use Rattle.ga_chip.specs.Chip.{Chip}
use Rattle.ga_chip.specs.Legal.{IsLegal}
use Rattle.ga_waits.specs.Ring.{IsRing, begins_ring, comes_back, names_behind, next_of, ring_at, rings_of, row_behind}
use Rattle.ga_waits.proofs.Largest.{back}
use Rattle.ga_waits.proofs.Rings.{waits_named}

pub map-flat_map : {A B C : Type 0} (f : B → C) (g : A → List B) (xs : List A)
    → map f (flat_map g xs) ≡ flat_map (λ x. map f (g x)) xs
map-flat_map f g [] = refl
map-flat_map f g (x ∷ xs) =
    map-append f (g x) (flat_map g xs) ∙ ap (λ t. map f (g x) ++ t) (map-flat_map f g xs)

-- ---- rows of nodes, each of which waits for the next

-- all of these names are above the first
abbrev pub AllAbove : ℕ → List ℕ → Type 0
AllAbove first [] = Unit {0}
AllAbove first (name ∷ names) = (first < name) × AllAbove first names

-- Names behind one: the one before each waits for it, and the last for the first, which is less
-- than each of them.
pub record Leads (next : ℕ → Option ℕ) (first from : ℕ) (names : List ℕ) : Type 0 where
  pub waits : map next (from ∷ names) ≡ map Some (names ++ first ∷ [])
  pub above : AllAbove first names

-- one name more at the front
more : {next : ℕ → Option ℕ} {first from name : ℕ} {names : List ℕ} → next from ≡ Some name
    → first < name → Leads next first name names → Leads next first from (name ∷ names)
more {next = next} {name = name} {names = names} is above leads = record {
  waits = ap (λ t. t ∷ map next (name ∷ names)) is ∙ ap (λ t. Some name ∷ t) leads.waits;
  above = (above, leads.above);
}

behind : (next : ℕ → Option ℕ) (first from name : ℕ) (names : List ℕ)
    → Leads next first from (name ∷ names)
    → (next from ≡ Some name) × (first < name) × Leads next first name names
behind next first from name names leads =
    let waits = leads.waits in
    let one : next from ≡ Some name = cc in
    let others : map next (name ∷ names) ≡ map Some (names ++ first ∷ []) = cc in
    (one, leads.above.0, record { waits = others; above = leads.above.1 })

at_end : (next : ℕ → Option ℕ) (first from : ℕ) → Leads next first from [] → next from ≡ Some first
at_end next first from leads = let waits = leads.waits in cc

-- what comes back is such a row,
pub found : (next : ℕ → Option ℕ) (first fuel from : ℕ) (at : Option ℕ) → next from ≡ at
    → comes_back next first fuel at ≡ true → Leads next first from (names_behind next first fuel at)
found next first fuel from None is h = absurd (cc)
found next first zero from (Some name) is h = absurd (cc)
found next first (suc fuel) from (Some name) is h =
    let comes = comes_back next first fuel (next name) in
    let names = names_behind next first fuel (next name) in
    on_test (name == first)
    (λ b. (if b then true else if nat_lt name first then false else comes) ≡ true
    → Leads next first from (if b then [] else name ∷ names))
    (λ same g. last (is ∙ ap Some (eqb-true name first same)))
    (λ other g.
    on_test (nat_lt name first)
    (λ b. (if b then false else comes) ≡ true → Leads next first from (name ∷ names))
    (λ less e. absurd (cc))
    (λ not_less e.
    more is (above other not_less) (found next first fuel name (next name) refl e))
    g)
    h
  where
    last : next from ≡ Some first → Leads next first from []
    last e = record { waits = ap (λ t. t ∷ []) e; above = tt }

    above : (name == first) ≡ false → nat_lt name first ≡ false → first < name
    above other not_less = grind (arith, nat_tests)

-- and such a row comes back
comes : (next : ℕ → Option ℕ) (first fuel from : ℕ) (names : List ℕ) → Leads next first from names
    → length names < fuel
    → (comes_back next first fuel (next from) ≡ true)
    × (names_behind next first fuel (next from) ≡ names)
comes next first zero from names leads short = absurd (omega (arith, short))
comes next first (suc fuel) from [] leads short =
    let is = at_end next first from leads in
    let same : (first == first) ≡ true = eq-eqb first first refl in
    let comes = comes_back next first fuel (next first) in
    let names = names_behind next first fuel (next first) in (
      ap (comes_back next first (suc fuel)) is
          ∙ ap (λ b. if b then true else if nat_lt first first then false else comes) same,
      ap (names_behind next first (suc fuel)) is ∙ ap (λ b. if b then [] else first ∷ names) same,
    )
comes next first (suc fuel) from (name ∷ names) leads short =
    let parts = behind next first from name names leads in
    let other : (name == first) ≡ false = grind (arith, nat_tests, parts.1) in
    let not_less : nat_lt name first ≡ false = grind (arith, nat_tests, parts.1) in
    let rest = comes next first fuel name names parts.2 (omega (arith, short)) in
    let back = comes_back next first fuel (next name) in
    let behind = names_behind next first fuel (next name) in (
      ap (comes_back next first (suc fuel)) parts.0
          ∙ ap (λ b. if b then true else if nat_lt name first then false else back) other
          ∙ ap (λ b. if b then false else back) not_less ∙ rest.0,
      ap (names_behind next first (suc fuel)) parts.0
          ∙ ap (λ b. if b then [] else name ∷ behind) other ∙ ap (λ t. name ∷ t) rest.1,
    )

-- ---- no name stands in such a row twice

-- from a name on there is one way back to the first
one_way : (next : ℕ → Option ℕ) (first from : ℕ) (names others : List ℕ)
    → Leads next first from names → Leads next first from others → names ≡ others
one_way next first from [] [] p q = refl
one_way next first from [] (other ∷ others) p q =
    let parts = behind next first from other others q in
    let is = at_end next first from p in
    let same : other ≡ first = let e = parts.0 in cc in
    absurd (omega (arith, parts.1, same))
one_way next first from (name ∷ names) [] p q =
    let parts = behind next first from name names p in
    let is = at_end next first from q in
    let same : name ≡ first = let e = parts.0 in cc in
    absurd (omega (arith, parts.1, same))
one_way next first from (name ∷ names) (other ∷ others) p q =
    let one = behind next first from name names p in
    let two = behind next first from other others q in
    let same : other ≡ name = let e = one.0 in let f = two.0 in cc in
    let rest =
    one_way next first name names others one.2
    (subst (λ t. Leads next first t others) same two.2) in
    ap (λ t. name ∷ t) rest ∙ ap (λ t. t ∷ others) (sym same)

-- a name that a longer row leads on from is none of these
abbrev Apart : ℕ → List ℕ → Type 0
Apart name [] = Unit {0}
Apart name (other ∷ others) = (name ≢ other) × Apart name others

apart : (next : ℕ → Option ℕ) (first name : ℕ) (names : List ℕ) (from : ℕ) (others : List ℕ)
    → Leads next first name names → Leads next first from others → length others ≤ length names
    → Apart name others
apart next first name names from [] p q short = tt
apart next first name names from (other ∷ others) p q short =
    let rest = (behind next first from other others q).2 in (
      λ same.
          let other_way = subst (λ t. Leads next first t others) (sym same) rest in
          let one = one_way next first name names others p other_way in
          omega (arith, ap length one, short),
      apart next first name names other others p rest (omega (arith, short)),
    )

abbrev Distinct : List ℕ → Type 0
Distinct [] = Unit {0}
Distinct (name ∷ names) = Apart name names × Distinct names

distinct : (next : ℕ → Option ℕ) (first from : ℕ) (names : List ℕ) → Leads next first from names
    → Distinct names
distinct next first from [] leads = tt
distinct next first from (name ∷ names) leads =
    let rest = (behind next first from name names leads).2 in (
      apart next first name names name names rest rest (omega arith),
      distinct next first name names rest,
    )

first_apart : (first : ℕ) (names : List ℕ) → AllAbove first names → Apart first names
first_apart first [] above = tt
first_apart first (name ∷ names) above =
    (λ same. omega (arith, above.0, same), first_apart first names above.1)

-- ---- the same, name by name

above_at : (first : ℕ) (names : List ℕ) → AllAbove first names → (k d : ℕ) → k < length names
    → first < get_or names k d
above_at first [] above k d h = absurd (omega (arith, h))
above_at first (name ∷ names) above zero d h = above.0
above_at first (name ∷ names) above (suc k) d h =
    above_at first names above.1 k d (omega (arith, h))

above_from : (first : ℕ) (names : List ℕ)
    → ((k d : ℕ) → k < length names → first ≤ get_or names k d)
    → ((k d : ℕ) → k < length names → first ≢ get_or names k d) → AllAbove first names
above_from first [] least other = tt
above_from first (name ∷ names) least other = (
  omega (arith, least 0 0 (omega arith), other 0 0 (omega arith)),
  above_from first names (λ k d h. least (suc k) d (omega (arith, h)))
      (λ k d h. other (suc k) d (omega (arith, h))),
)

apart_at : (name : ℕ) (names : List ℕ) → Apart name names → (k d : ℕ) → k < length names
    → name ≢ get_or names k d
apart_at name [] apart k d h = absurd (omega (arith, h))
apart_at name (other ∷ others) apart zero d h = apart.0
apart_at name (other ∷ others) apart (suc k) d h =
    apart_at name others apart.1 k d (omega (arith, h))

all_apart : (names : List ℕ) → Distinct names → AllPairs (λ one other. one ≢ other) names
all_apart [] apart i j d less h = absurd (omega (arith, h))
all_apart (name ∷ names) apart zero zero d less h = absurd (omega (arith, less))
all_apart (name ∷ names) apart zero (suc j) d less h =
    apart_at name names apart.0 j d (omega (arith, h))
all_apart (name ∷ names) apart (suc i) zero d less h = absurd (omega (arith, less))
all_apart (name ∷ names) apart (suc i) (suc j) d less h =
    all_apart names apart.1 i j d (omega (arith, less)) (omega (arith, h))

each_waits : (next : ℕ → Option ℕ) (names others : List ℕ) → map next names ≡ map Some others
    → (k d : ℕ) → k < length names → (other : ℕ) × (next (get_or names k d) ≡ Some other)
each_waits next [] others e k d h = absurd (omega (arith, h))
each_waits next (name ∷ names) [] e k d h = absurd (cc)
each_waits next (name ∷ names) (other ∷ others) e zero d h = (other, cc)
each_waits next (name ∷ names) (other ∷ others) e (suc k) d h =
    let rest : map next names ≡ map Some others = cc in
    each_waits next names others rest k d (omega (arith, h))

-- a row that leads back to its first name is a ring,
pub leads_ring : (next : ℕ → Option ℕ) (first : ℕ) (names : List ℕ) → Leads next first first names
    → IsRing next (first ∷ names)
leads_ring next first names leads = record {
  some = omega arith;
  least = least;
  distinct =
      all_apart (first ∷ names)
      (first_apart first names leads.above, distinct next first first names leads);
  waits = leads.waits;
}
  where
    least : (k d : ℕ) → k < length (first ∷ names) → first ≤ get_or (first ∷ names) k d
    least zero d h = omega arith
    least (suc k) d h = omega (arith, above_at first names leads.above k d (omega (arith, h)))

-- and a ring leads back to its first name
ring_leads : (next : ℕ → Option ℕ) (first : ℕ) (names : List ℕ) → IsRing next (first ∷ names)
    → Leads next first first names
ring_leads next first names ring = record {
  waits = ring.waits;
  above =
      above_from first names (λ k d h. ring.least (suc k) d (omega (arith, h)))
      (λ k d h. ring.distinct 0 (suc k) d (omega arith) (omega (arith, h)));
}

-- ---- a ring has no more names than there are nodes

-- a node that waits for another has the name of a node
abbrev pub AreNodes : (ℕ → Option ℕ) → Type 0
AreNodes next = (name other : ℕ) → next name ≡ Some other → is_node_name name ≡ true

pub few_names : (next : ℕ → Option ℕ) (row : List ℕ) → AreNodes next → IsRing next row
    → length row ≤ 144
few_names next row nodes ring =
    pigeonhole (length row) 144 (λ k. index_of (get_or row k 0)) (λ k h. (at k h).0) one
  where
    at : (k : ℕ) → k < length row
        → (index_of (get_or row k 0) < 144) × (name_at (index_of (get_or row k 0)) ≡ get_or row k 0)
    at k h =
        let waits = each_waits next row (drop 1 row ++ take 1 row) ring.waits k 0 h in
        back (get_or row k 0) (nodes (get_or row k 0) waits.0 waits.1)

    less : (i j : ℕ) → i < j → j < length row
        → index_of (get_or row i 0) ≡ index_of (get_or row j 0) → ⊥
    less i j lt h same =
        ring.distinct i j 0 lt h
        (sym (at i (omega (arith, lt, h))).1 ∙ ap name_at same ∙ (at j h).1)

    one : (i j : ℕ) → i < length row → j < length row
        → index_of (get_or row i 0) ≡ index_of (get_or row j 0) → i ≡ j
    one i j hi hj same = by (cases_order i j)
      where
        by : (i ≡ j) ⊎ ((i < j) ⊎ (j < i)) → i ≡ j
        by (inl e) = e
        by (inr (inl lt)) = absurd (less i j lt hj same)
        by (inr (inr lt)) = absurd (less j i lt hi (sym same))

-- ---- the rings of all nodes

-- a row that begins at a node is the ring that is found there
at_first : (next : ℕ → Option ℕ) (first : ℕ) (names : List ℕ) → Leads next first first names
    → length names < 144 → ring_at next first ≡ (first ∷ names) ∷ []
unfolding begins_ring row_behind
at_first next first names leads short =
    let walk = comes next first 144 first names leads short in
    ap (λ b. if b then (first ∷ names_behind next first 144 (next first)) ∷ [] else []) walk.0
    ∙ ap (λ t. (first ∷ t) ∷ []) walk.1

one_member : (row other : List ℕ) → Contains (other ∷ []) row → other ≡ row
one_member row other (zero, h, is) = is
one_member row other (suc k, h, is) = absurd (omega (arith, h))

no_member : (row : List ℕ) → Contains [] row → ⊥
no_member row (k, h, is) = omega (arith, h)

-- what is found at a node is a ring
ring_there : (next : ℕ → Option ℕ) (first : ℕ) (row : List ℕ) → Contains (ring_at next first) row
    → IsRing next row
unfolding begins_ring row_behind
ring_there next first row =
    let names = names_behind next first 144 (next first) in
    on_test (comes_back next first 144 (next first))
    (λ b. Contains (if b then (first ∷ names) ∷ [] else []) row → IsRing next row)
    (λ comes among.
    subst (IsRing next) (one_member row (first ∷ names) among)
    (leads_ring next first names (found next first 144 first (next first) refl comes)))
    (λ none among. absurd (no_member row among))

-- what is in one of the lists is in all of them together, and the other way round
among_all : {A : Type 0} (lists : ℕ → List A) (x : A) (start n i : ℕ) → start ≤ i → i < start + n
    → Contains (lists i) x → Contains (flat_map lists (range_with_len start n)) x
among_all lists x start zero i low high among = absurd (omega (arith, low, high))
among_all lists x start (suc n) i low high among =
    let rest = flat_map lists (range_with_len (start + 1) n) in
    elim (cases_eq i start) [
      | inl same ↦
          Contains-append_left (lists start) rest x (subst (λ t. Contains (lists t) x) same among)
      | inr apart ↦
          Contains-append_right (lists start) rest x
          (among_all lists x (start + 1) n i
          (omega (arith, low, apart)) (omega (arith, high)) among)
    ]

among_one : {A : Type 0} (lists : ℕ → List A) (x : A) (start n : ℕ)
    → Contains (flat_map lists (range_with_len start n)) x → (i : ℕ) × Contains (lists i) x
among_one lists x start zero (k, h, is) = absurd (omega (arith, h))
among_one lists x start (suc n) among =
    let rest = flat_map lists (range_with_len (start + 1) n) in
    elim (Contains-append_cases (lists start) rest x among) [
      | inl here ↦ (start, here)
      | inr later ↦ among_one lists x (start + 1) n later
    ]

-- each row that is found is a ring,
is_ring : (next : ℕ → Option ℕ) (row : List ℕ) → Contains (rings_of next) row → IsRing next row
unfolding rings_of
is_ring next row among =
    let there = among_one (λ index. ring_at next (name_at index)) row 0 144 among in
    ring_there next (name_at there.0) row there.1

-- and each ring is found
is_found : (next : ℕ → Option ℕ) (row : List ℕ) → AreNodes next → IsRing next row
    → Contains (rings_of next) row
unfolding rings_of
is_found next [] nodes ring = absurd (omega (arith, ring.some))
is_found next (first ∷ names) nodes ring =
    let few = few_names next (first ∷ names) nodes ring in
    let leads = ring_leads next first names ring in
    let waits =
    each_waits next (first ∷ names) (names ++ first ∷ []) ring.waits 0 0 (omega arith) in
    let there = back first (nodes first waits.0 waits.1) in
    let here : Contains (ring_at next first) (first ∷ names) =
    subst (λ t. Contains t (first ∷ names))
    (sym (at_first next first names leads (omega (arith, few)))) (0, omega arith, refl) in
    among_all (λ index. ring_at next (name_at index)) (first ∷ names) 0 144 (index_of first)
    (omega arith) (omega (arith, there.0))
    (subst (λ t. Contains (ring_at next t) (first ∷ names)) (sym there.1) here)

pub rings_are : (chip : Chip) → IsLegal chip → (row : List ℕ)
    → Contains (rings_of (next_of chip)) row ↔ IsRing (next_of chip) row
rings_are chip legal row =
    (is_ring (next_of chip) row, is_found (next_of chip) row (waits_named chip legal))

-- ---- their order

-- each number of a list is above the one before it, the first at least so much
abbrev Climbs : ℕ → List ℕ → Type 0
Climbs low [] = Unit {0}
Climbs low (n ∷ ns) = (low ≤ n) × Climbs (n + 1) ns

lower : (low least : ℕ) (ns : List ℕ) → least ≤ low → Climbs low ns → Climbs least ns
lower low least [] h climbs = tt
lower low least (n ∷ ns) h climbs = (omega (arith, h, climbs.0), climbs.1)

climbs_up : (low : ℕ) (ns : List ℕ) → Climbs low ns → IsStrictlyIncreasing ns
climbs_up low [] climbs k h = absurd (omega (arith, h))
climbs_up low (n ∷ []) climbs k h = absurd (omega (arith, h))
climbs_up low (n ∷ m ∷ ns) climbs zero h = omega (arith, climbs.1.0)
climbs_up low (n ∷ m ∷ ns) climbs (suc k) h =
    let next : suc (k + 1) ≡ suc k + 1 = omega arith in
    subst (λ t. get_or (m ∷ ns) k 0 < get_or (n ∷ m ∷ ns) t 0) next
    (climbs_up (n + 1) (m ∷ ns) climbs.1 k (omega (arith, h)))

abbrev least_names : List (List ℕ) → List ℕ
least_names rows = map (λ row. get_or row 0 0) rows

abbrev rings_from : (ℕ → Option ℕ) → ℕ → ℕ → List (List ℕ)
rings_from next start n = flat_map (λ index. ring_at next (name_at index)) (range_with_len start n)

climbs_from : (next : ℕ → Option ℕ) (start n : ℕ)
    → Climbs (name_at start) (least_names (rings_from next start n))
climbs_from next start zero = tt
climbs_from next start (suc n) =
    let name = name_at start in
    let up : name + 1 ≤ name_at (start + 1) = omega arith in
    let rings = rings_from next (start + 1) n in
    let rest = climbs_from next (start + 1) n in
    let row = name ∷ row_behind next name in
    on_test (begins_ring next name)
    (λ b. Climbs name (least_names ((if b then row ∷ [] else []) ++ rings)))
    (λ begins. (omega arith, lower (name_at (start + 1)) (name + 1) (least_names rings) up rest))
    (λ none. lower (name_at (start + 1)) name (least_names rings) (omega (arith, up)) rest)

-- the rings are in the order of their least names
pub in_order : (next : ℕ → Option ℕ) → IsStrictlyIncreasing (least_names (rings_of next))
unfolding rings_of
in_order next = climbs_up 0 (least_names (rings_from next 0 144)) (climbs_from next 0 144)
