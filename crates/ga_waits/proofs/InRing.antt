-- A walk comes back to exactly the nodes that some ring has.
use Rattle.std.proofs.Common.{◌≡◌, ◌∙◌, ◌⊎◌, inl, inr, ◌<◌, ◌≤◌, ℕ, zero, suc, ◌+◌, ◌-◌, true, false, List, [], ◌∷◌, ◌++◌, get_or, length, map, Option, Some, None, refl, ap, subst, eq-eqb, arith}
use Rattle.std.specs.Prelude.{◌↔◌, Contains, ◌==◌, nat_lt, if◌then◌else◌}
use Rattle.std.proofs.lemmas.Bool.{eqb-true}
use Rattle.std.proofs.lemmas.Bool.Decides.{nat_tests}
use Rattle.ga_pack.proofs.ByCases.{on_test}
use Rattle.ga_chip.specs.Chip.{Chip}
use Rattle.ga_chip.specs.Legal.{IsLegal}
use Rattle.ga_waits.specs.Causes.{HasRing, comes_back, is_in_ring}
use Rattle.ga_waits.specs.Ring as ring
use Rattle.ga_waits.specs.Ring.{IsRing, next_of}
use Rattle.ga_waits.proofs.RingRows.{few_names, found, leads_ring}
use Rattle.ga_waits.proofs.Rings.{waits_named}

-- ---- ways from a node to one

-- each of these nodes waits for the next, and the last for the target
abbrev IsWay : (ℕ → Option ℕ) → ℕ → List ℕ → ℕ → Type 0
IsWay next from names target = map next (from ∷ names) ≡ map Some (names ++ target ∷ [])

one_on : (next : ℕ → Option ℕ) (from name : ℕ) (names : List ℕ) (target : ℕ)
    → IsWay next from (name ∷ names) target
    → (next from ≡ Some name) × IsWay next name names target
one_on next from name names target way =
    let one : next from ≡ Some name = cc in
    let rest : map next (name ∷ names) ≡ map Some (names ++ target ∷ []) = cc in
    (one, rest)

at_end : (next : ℕ → Option ℕ) (from target : ℕ) → IsWay next from [] target
    → next from ≡ Some target
at_end next from target way = cc

here : (name : ℕ) (names : List ℕ) → Contains (name ∷ names) name
here name names = (0, omega arith, refl)

there : (name other : ℕ) (names : List ℕ) → Contains names other → Contains (name ∷ names) other
there name other names (k, h, is) = (suc k, omega (arith, h), is)

-- a node of a list is its first or one of the others
split : (name other : ℕ) (names : List ℕ) → Contains (name ∷ names) other
    → (name ≡ other) ⊎ Contains names other
split name other names (zero, h, is) = inl is
split name other names (suc k, h, is) = inr (k, omega (arith, h), is)

-- a walk that comes back from the end of a way does from its beginning
through : (next : ℕ → Option ℕ) (x from : ℕ) (names : List ℕ) (end fuel all : ℕ)
    → length names + fuel ≡ all → IsWay next from names end
    → comes_back next x fuel (Some end) ≡ true → comes_back next x all (next from) ≡ true
through next x from [] end fuel all sum way back =
    let same : all ≡ fuel = omega (arith, sum) in
    ap (λ n. comes_back next x n (next from)) same
    ∙ ap (comes_back next x fuel) (at_end next from end way) ∙ back
through next x from (name ∷ names) end fuel zero sum way back = absurd (omega (arith, sum))
through next x from (name ∷ names) end fuel (suc all) sum way back =
    let parts = one_on next from name names end way in
    let rest = through next x name names end fuel all (omega (arith, sum)) parts.1 back in
    let later = comes_back next x all (next name) in
    ap (comes_back next x (suc all)) parts.0
    ∙ on_test (name == x) (λ b. (if b then true else later) ≡ true) (λ is. refl) (λ is. rest)

-- and one comes to each node of a way
reaches : (next : ℕ → Option ℕ) (x from : ℕ) (names : List ℕ) (end fuel k : ℕ)
    → IsWay next from names end → k < length (from ∷ names) → get_or (from ∷ names) k x ≡ x
    → k < fuel → comes_back next x fuel (Some from) ≡ true
reaches next x from names end zero k way h is short = absurd (omega (arith, short))
reaches next x from names end (suc fuel) zero way h is short =
    ap (λ b. if b then true else comes_back next x fuel (next from)) (eq-eqb from x is)
reaches next x from [] end (suc fuel) (suc k) way h is short = absurd (omega (arith, h))
reaches next x from (name ∷ names) end (suc fuel) (suc k) way h is short =
    let parts = one_on next from name names end way in
    let rest = reaches next x name names end fuel k parts.1 (omega (arith, h)) is
    (omega (arith, short)) in
    on_test (from == x) (λ b. (if b then true else comes_back next x fuel (next from)) ≡ true)
    (λ same. refl) (λ other. ap (comes_back next x fuel) parts.0 ∙ rest)

-- the part of a way behind one of its nodes
behind : (next : ℕ → Option ℕ) (x from : ℕ) (names : List ℕ) (end k : ℕ)
    → IsWay next from names end → k < length (from ∷ names) → get_or (from ∷ names) k x ≡ x
    → (rest : List ℕ) × IsWay next x rest end × (length rest + k ≡ length names)
behind next x from names end zero way h is =
    (names, subst (λ n. IsWay next n names end) is way, omega arith)
behind next x from [] end (suc k) way h is = absurd (omega (arith, h))
behind next x from (name ∷ names) end (suc k) way h is =
    let parts = one_on next from name names end way in
    let rest = behind next x name names end k parts.1 (omega (arith, h)) is in
    (rest.0, rest.1, omega (arith, rest.2))

-- So from each node of a way that comes back to its first one, a walk comes back to that node.
round : (next : ℕ → Option ℕ) (first : ℕ) (names : List ℕ) (x : ℕ)
    → IsWay next first names first → length names < 144 → Contains (first ∷ names) x
    → is_in_ring next x ≡ true
unfolding is_in_ring
round next first names x way few (k, h, is) =
    let rest = behind next x first names first k way h is in
    let fuel = 144 - length rest.0 in
    let all : length rest.0 + fuel ≡ 144 = omega (arith, rest.2, few) in
    let back = reaches next x first names first fuel k way h is (omega (arith, rest.2, few, h)) in
    through next x x rest.0 first fuel 144 all rest.1 back

-- ---- a ring is such a way

pub of_ring : (next : ℕ → Option ℕ) (name : ℕ)
    → ((row : List ℕ) → IsRing next row → length row ≤ 144) → HasRing next name
    → is_in_ring next name ≡ true
of_ring next name few ([], ring, (k, h, is)) = absurd (omega (arith, h))
of_ring next name few (first ∷ names, ring, among) =
    round next first names name ring.waits (omega (arith, few (first ∷ names) ring)) among

-- ---- and a walk that comes back shows a ring

-- the nodes on a walk that comes to a node
way_of : (next : ℕ → Option ℕ) (x fuel from : ℕ) (at : Option ℕ) → next from ≡ at
    → comes_back next x fuel at ≡ true
    → (names : List ℕ) × IsWay next from names x × (length names < fuel)
way_of next x fuel from None is back = absurd (cc)
way_of next x zero from (Some name) is back = absurd (cc)
way_of next x (suc fuel) from (Some name) is back =
    let less = comes_back next x fuel (next name) in
    on_test (name == x)
    (λ b. (if b then true else less) ≡ true → (names : List ℕ) × IsWay next from names x
    × (length names < suc fuel))
    (λ same e. ([], ap (λ t. t ∷ []) (is ∙ ap Some (eqb-true name x same)), omega arith))
    (λ other e.
    let rest = way_of next x fuel name (next name) refl e in (
      name ∷ rest.0,
      ap (λ t. t ∷ map next (name ∷ rest.0)) is ∙ ap (λ t. Some name ∷ t) rest.1,
      omega (arith, rest.2),
    ))
    back

-- the least of some names
least : (name : ℕ) (names : List ℕ)
    → (low : ℕ) × Contains (name ∷ names) low × ((x : ℕ) → Contains (name ∷ names) x → low ≤ x)
least name [] = (
  name,
  here name [],
  λ x among. elim (split name x [] among) [
    | inl same ↦ omega (arith, same)
    | inr (k, h, is) ↦ absurd (omega (arith, h))
  ],
)
least name (other ∷ names) =
    let rest = least other names in
    on_test (nat_lt name rest.0)
    (λ b. nat_lt name rest.0 ≡ b → (low : ℕ) × Contains (name ∷ other ∷ names) low
    × ((x : ℕ) → Contains (name ∷ other ∷ names) x → low ≤ x))
    (λ is e. (
      name,
      here name (other ∷ names),
      λ x among. elim (split name x (other ∷ names) among) [
        | inl same ↦ omega (arith, same)
        | inr later ↦
            let above = rest.2 x later in
            let less : name < rest.0 = grind (arith, nat_tests, e) in omega (arith, above, less)
      ],
    ))
    (λ is e. (
      rest.0,
      there name rest.0 (other ∷ names) rest.1,
      λ x among. elim (split name x (other ∷ names) among) [
        | inl same ↦
            let less : rest.0 ≤ name = grind (arith, nat_tests, e) in omega (arith, same, less)
        | inr later ↦ rest.2 x later
      ],
    ))
    refl

-- what a node of a way waits for is on it, or is its end
on_way : (next : ℕ → Option ℕ) (from : ℕ) (names : List ℕ) (end x y : ℕ)
    → IsWay next from names end → Contains (from ∷ names) x → next x ≡ Some y
    → Contains names y ⊎ (end ≡ y)
on_way next from [] end x y way among e = elim (split from x [] among) [
  | inl same ↦
      let last = at_end next from end way in
      let is : end ≡ y = cc in inr is
  | inr (k, h, is) ↦ absurd (omega (arith, h))
]
on_way next from (name ∷ names) end x y way among e =
    let parts = one_on next from name names end way in
    elim (split from x (name ∷ names) among) [
      | inl same ↦ let one = parts.0 in let is : name ≡ y = cc in inl (0, omega arith, is)
      | inr later ↦ elim (on_way next name names end x y parts.1 later e) [
        | inl among ↦ inl (there name y names among)
        | inr last ↦ inr last
      ]
    ]

-- a way back to its first node is never left
stays_on : (next : ℕ → Option ℕ) (first : ℕ) (names : List ℕ) (x y : ℕ)
    → IsWay next first names first → Contains (first ∷ names) x → next x ≡ Some y
    → Contains (first ∷ names) y
stays_on next first names x y way among e = elim (on_way next first names first x y way among e) [
  | inl later ↦ there first y names later
  | inr last ↦ (0, omega arith, last)
]

-- so a set that is never left has the end of a way that begins in it
to_end : (next : ℕ → Option ℕ) (set : ℕ → Type 0)
    → ((x y : ℕ) → set x → next x ≡ Some y → set y) → (from : ℕ) (names : List ℕ) (end : ℕ)
    → IsWay next from names end → set from → set end
to_end next set stays from [] end way among = stays from end among (at_end next from end way)
to_end next set stays from (name ∷ names) end way among =
    let parts = one_on next from name names end way in
    to_end next set stays name names end parts.1 (stays from name among parts.0)

-- a walk over names that aren't less than the node to which it comes back
no_less : (next : ℕ → Option ℕ) (set : ℕ → Type 0)
    → ((x y : ℕ) → set x → next x ≡ Some y → set y) → (low : ℕ) → ((x : ℕ) → set x → low ≤ x)
    → (fuel from : ℕ) (at : Option ℕ) → set from → next from ≡ at
    → comes_back next low fuel at ≡ true → ring.comes_back next low fuel at ≡ true
no_less next set stays low above fuel from None among is back = absurd (cc)
no_less next set stays low above zero from (Some name) among is back = absurd (cc)
no_less next set stays low above (suc fuel) from (Some name) among is back =
    let less = comes_back next low fuel (next name) in
    let rest = ring.comes_back next low fuel (next name) in
    let in_set = stays from name among is in
    let not_less : nat_lt name low ≡ false =
    let at_least = above name in_set in grind (arith, nat_tests, at_least) in
    on_test (name == low)
    (λ b. (if b then true else less) ≡ true
    → (if b then true else if nat_lt name low then false else rest) ≡ true)
    (λ same e. refl)
    (λ other e.
    ap (λ b. if b then false else rest) not_less
    ∙ no_less next set stays low above fuel name (next name) in_set refl e)
    back

pub to_ring : (next : ℕ → Option ℕ) (name : ℕ) → is_in_ring next name ≡ true → HasRing next name
unfolding is_in_ring
to_ring next name back =
    let way = way_of next name 144 name (next name) refl back in
    let names = way.0 in
    let low = least name names in
    let first = low.0 in
    let set = Contains (name ∷ names) in
    let stays = λ (x y : ℕ). stays_on next name names x y way.1 in
    let walk = no_less next set stays first low.2 144 first (next first) low.1 refl
    (round next name names first way.1 way.2 low.1) in
    let others = ring.names_behind next first 144 (next first) in
    let is_ring =
    leads_ring next first others (found next first 144 first (next first) refl walk) in
    let at = low.1 in
    let rest = behind next first name names name at.0 way.1 at.1 at.2 in (
      first ∷ others,
      is_ring,
      to_end next (Contains (first ∷ others))
          (λ x y. stays_on next first others x y is_ring.waits) first rest.0 name rest.1
          (here first others),
    )

-- So a node is in a ring exactly if some ring has it.
pub in_ring : (chip : Chip) → IsLegal chip → (name : ℕ)
    → is_in_ring (next_of chip) name ≡ true ↔ HasRing (next_of chip) name
in_ring chip legal name = (
  to_ring (next_of chip) name,
  of_ring (next_of chip) name (λ row. few_names (next_of chip) row (waits_named chip legal)),
)
