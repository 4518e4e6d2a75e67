-- What is left after 144 rounds is the largest closed set.
use Rattle.std.proofs.Common.{◌≡◌, ℕ, zero, suc, ◌+◌, ◌*◌, ◌<◌, ◌≤◌, ◌⊎◌, inl, inr, Bool, true, false, List, length, Option, Some, None, refl, sym, ap, ◌∙◌, subst, arith}
use Rattle.std.specs.Prelude.{if◌then◌else◌}
use Rattle.std.specs.Cmp.{both_ways}
use Rattle.std.specs.Option.{option_map_or}
use Rattle.std.proofs.lemmas.Bool.{and_from, and_parts, cases_eq, false≢true, ltb-true}
use Rattle.std.proofs.lemmas.Option.{slice_get_within}
use Rattle.ga_place.specs.Cell.{index_of, name_at}
use Rattle.ga_place.specs.Node.{IsNodeName, column_of, is_node_name, row_of}
use Rattle.ga_place.proofs.Cells.{index_below, name_back}
use Rattle.ga_chip.specs.Part.{Part}
use Rattle.ga_chip.specs.Chip.{Chip, part_of}
use Rattle.ga_chip.specs.Legal.{IsLegal}
use Rattle.ga_chip.specs.Stuck.{HoldsEachClosed, IsClosed, is_stuck}
use Rattle.ga_chip.proofs.Closed.{in_closed}
use Rattle.ga_chip.proofs.Largest.{IsPart, stuck_more}
use Rattle.ga_waits.specs.Closed.{left_after, stuck_in}

-- What is stuck by a set is stuck by a larger one, if there is a node.
stuck_there : (inside larger : ℕ → Bool) (cells : List (Option ℕ)) (part : Option Part)
    → IsPart inside larger → option_map_or (is_stuck inside cells) part false ≡ true
    → option_map_or (is_stuck larger cells) part false ≡ true
stuck_there inside larger cells (Some part) more stuck =
    stuck_more inside larger cells part more stuck
stuck_there inside larger cells None more stuck = stuck

-- A node of a closed set has the name of a node.
named : (name count : ℕ) → count ≡ 144 → index_of name < count → is_node_name name ≡ true
named name count all below = by (is_node_name name) refl
  where
    by : (b : Bool) → is_node_name name ≡ b → is_node_name name ≡ true
    by true e = e
    by false e =
        let past : index_of name ≡ 144 =
        ap (λ b. if b then row_of name * 18 + column_of name else 144) e in
        absurd (omega (arith, past, all, below))

-- each round leaves a closed set as it is
kept : (chip : Chip) (other : ℕ → Bool) → IsLegal chip → IsClosed chip other → (rounds : ℕ)
    → IsPart other (left_after chip rounds)
kept chip other legal closed zero name member =
    let it = in_closed chip other name closed member in
    named name (length chip.parts) legal.parts
    (slice_get_within chip.parts (index_of name) it.part it.there)
kept chip other legal closed (suc rounds) name member =
    let before = kept chip other legal closed rounds in
    and_from _ _ (before name member) (stuck_there other (left_after chip rounds) chip.cells
    (part_of chip name) before (closed name member))

-- no round puts a node in
left_less : (chip : Chip) (rounds : ℕ)
    → IsPart (left_after chip (suc rounds)) (left_after chip rounds)
left_less chip rounds name member = (and_parts _ _ member).0

left_named : (chip : Chip) (rounds : ℕ) → IsPart (left_after chip rounds) is_node_name
left_named chip zero name member = member
left_named chip (suc rounds) name member =
    left_named chip rounds name (left_less chip rounds name member)

-- a round leaves out no node, and then no round behind it does
abbrev IsSettled : Chip → ℕ → Type 0
IsSettled chip rounds = IsPart (left_after chip rounds) (left_after chip (suc rounds))

settled_on : (chip : Chip) (rounds : ℕ) → IsSettled chip rounds → IsSettled chip (suc rounds)
settled_on chip rounds settled name member =
    and_from _ _ member (stuck_there (left_after chip rounds)
    (left_after chip (suc rounds)) chip.cells (part_of chip name) settled (and_parts _ _ member).1)

-- how many of a range of numbers are in a set
abbrev count_of : Bool → ℕ
count_of true = 1
count_of false = 0

abbrev count_in : (ℕ → Bool) → ℕ → ℕ → ℕ
count_in inside start zero = 0
count_in inside start (suc n) = count_of (inside start) + count_in inside (start + 1) n

least : (b : Bool) → count_of b ≤ 1
least true = omega arith
least false = omega arith

count_most : (inside : ℕ → Bool) (start n : ℕ) → count_in inside start n ≤ n
count_most inside start zero = omega arith
count_most inside start (suc n) =
    omega (arith, least (inside start), count_most inside (start + 1) n)

part_least : (b c : Bool) → (c ≡ true → b ≡ true) → count_of c ≤ count_of b
part_least b false part = omega arith
part_least true true part = omega arith
part_least false true part = absurd (false≢true (part refl))

count_part : (larger inside : ℕ → Bool) (start n : ℕ) → IsPart inside larger
    → count_in inside start n ≤ count_in larger start n
count_part larger inside start zero part = omega arith
count_part larger inside start (suc n) part =
    omega (
      arith,
      part_least (larger start) (inside start) (part start),
      count_part larger inside (start + 1) n part,
    )

-- every number of a range that is in one set is in another
abbrev HasAll : (ℕ → Bool) → (ℕ → Bool) → ℕ → ℕ → Type 0
HasAll larger inside start n =
    (i : ℕ) → start ≤ i → i < start + n → larger i ≡ true → inside i ≡ true

-- a part of a set has all its numbers, or fewer of them
same_or_fewer : (larger inside : ℕ → Bool) (start n : ℕ) → IsPart inside larger
    → HasAll larger inside start n ⊎ (count_in inside start n < count_in larger start n)
same_or_fewer larger inside start zero part =
    inl (λ i low high is. absurd (omega (arith, low, high)))
same_or_fewer larger inside start (suc n) part =
    by (inside start) refl (larger start) refl (same_or_fewer larger inside (start + 1) n part)
  where
    by : (b : Bool) → inside start ≡ b → (c : Bool) → larger start ≡ c
        → HasAll larger inside (start + 1) n
        ⊎ (count_in inside (start + 1) n < count_in larger (start + 1) n)
        → HasAll larger inside start (suc n)
        ⊎ (count_in inside start (suc n) < count_in larger start (suc n))
    by true e c f (inl all) = inl (λ i low high is. at i low high is (cases_eq i start))
      where
        at : (i : ℕ) → start ≤ i → i < start + suc n → larger i ≡ true
            → (i ≡ start) ⊎ (i ≡ start → ⊥) → inside i ≡ true
        at i low high is (inl same) = ap inside same ∙ e
        at i low high is (inr apart) = all i (omega (arith, low, apart)) (omega (arith, high)) is
    by false e true f (inl all) =
        let none : count_of (inside start) ≡ count_of false = ap count_of e in
        let one : count_of (larger start) ≡ count_of true = ap count_of f in
        inr (omega (arith, none, one, count_part larger inside (start + 1) n part))
    by false e false f (inl all) = inl (λ i low high is. at i low high is (cases_eq i start))
      where
        at : (i : ℕ) → start ≤ i → i < start + suc n → larger i ≡ true
            → (i ≡ start) ⊎ (i ≡ start → ⊥) → inside i ≡ true
        at i low high is (inl same) = absurd (false≢true (sym f ∙ ap larger (sym same) ∙ is))
        at i low high is (inr apart) = all i (omega (arith, low, apart)) (omega (arith, high)) is
    by b e c f (inr less) =
        inr (omega (arith, part_least (larger start) (inside start) (part start), less))

-- how many nodes are left after rounds
count_left : Chip → ℕ → ℕ
count_left chip rounds = count_in (λ index. left_after chip rounds (name_at index)) 0 144

named_from : (name : ℕ) → is_node_name name ≡ true → IsNodeName name
named_from name is =
    let both = and_parts _ _ is in
    (ltb-true (row_of name) 8 both.0, ltb-true (column_of name) 18 both.1)

-- the index of a node, and its name
pub back : (name : ℕ) → is_node_name name ≡ true
    → (index_of name < 144) × (name_at (index_of name) ≡ name)
back name is =
    let below = index_below name (named_from name is) in
    (below, name_back name below)

round : (chip : Chip) (rounds : ℕ)
    → IsSettled chip rounds ⊎ (count_left chip (suc rounds) < count_left chip rounds)
unfolding count_left
round chip rounds =
    by (same_or_fewer (λ index. left_after chip rounds (name_at index)) (λ index. left_after chip
    (suc rounds) (name_at index)) 0 144 (λ index. left_less chip rounds (name_at index)))
  where
    by : ((i : ℕ) → 0 ≤ i → i < 0 + 144 → left_after chip rounds (name_at i) ≡ true
        → left_after chip (suc rounds) (name_at i) ≡ true)
        ⊎ (count_left chip (suc rounds) < count_left chip rounds)
        → IsSettled chip rounds ⊎ (count_left chip (suc rounds) < count_left chip rounds)
    by (inl all) = inl (λ name member.
        let its = back name (left_named chip rounds name member) in
        subst (λ n. left_after chip (suc rounds) n ≡ true) its.1 (all (index_of name) (omega arith)
        (omega (arith, its.0)) (subst (λ n. left_after chip rounds n ≡ true) (sym its.1) member)))
    by (inr less) = inr less

at_first : (chip : Chip) → count_left chip 0 + 0 ≤ 144
unfolding count_left
at_first chip =
    at_most (count_in (λ index. left_after chip 0 (name_at index)) 0 144)
    (count_most (λ index. left_after chip 0 (name_at index)) 0 144)
  where
    at_most : (count : ℕ) → count ≤ 144 → count + 0 ≤ 144
    at_most count most = omega (arith, most)

-- after these rounds no node is left out any more, or each of them has left out a node
settled_or_fewer : (chip : Chip) (rounds : ℕ)
    → IsSettled chip rounds ⊎ (count_left chip rounds + rounds ≤ 144)
settled_or_fewer chip zero = inr (at_first chip)
settled_or_fewer chip (suc rounds) = by (settled_or_fewer chip rounds) (round chip rounds)
  where
    by : IsSettled chip rounds ⊎ (count_left chip rounds + rounds ≤ 144)
        → IsSettled chip rounds ⊎ (count_left chip (suc rounds) < count_left chip rounds)
        → IsSettled chip (suc rounds) ⊎ (count_left chip (suc rounds) + suc rounds ≤ 144)
    by (inl settled) either = inl (settled_on chip rounds settled)
    by (inr few) (inl settled) = inl (settled_on chip rounds settled)
    by (inr few) (inr less) = inr (omega (arith, few, less))

none_fewer : (fewer count : ℕ) → count + 144 ≤ 144 → fewer < count → ⊥
none_fewer fewer count few less = omega (arith, few, less)

settled : (chip : Chip) → IsSettled chip 144
settled chip = by (settled_or_fewer chip 144) (round chip 144)
  where
    by : IsSettled chip 144 ⊎ (count_left chip 144 + 144 ≤ 144)
        → IsSettled chip 144 ⊎ (count_left chip 145 < count_left chip 144) → IsSettled chip 144
    by (inl is) either = is
    by (inr few) (inl is) = is
    by (inr few) (inr less) =
        absurd (none_fewer (count_left chip 145) (count_left chip 144) few less)

-- The set is closed,
pub closed : (chip : Chip) → IsClosed chip (stuck_in chip)
unfolding stuck_in
closed chip name member = (and_parts _ _ (settled chip name member)).1

-- and each closed set is a part of it.
pub largest : (chip : Chip) → IsLegal chip → HoldsEachClosed chip (stuck_in chip)
unfolding stuck_in
largest chip legal other name is_closed member = kept chip other legal is_closed 144 name member

-- So it is the set that a chip answers.
pub same_set : (chip : Chip) (inside : ℕ → Bool) → IsLegal chip → IsClosed chip inside
    → HoldsEachClosed chip inside → (name : ℕ) → inside name ≡ stuck_in chip name
same_set chip inside legal is_closed holds name =
    both_ways (inside name) (stuck_in chip name) (largest chip legal inside name is_closed)
    (holds (stuck_in chip) name (closed chip))
