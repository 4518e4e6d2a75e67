-- The chip after reset is legal.
use Rattle.std.proofs.Common.{◌≡◌, ℕ, zero, suc, ◌+◌, ◌<◌, ◌≤◌, length, replicate, get_or, slice_get, option_map, Option, Some, None, refl, sym, ap, ap₂, ◌∙◌, List, map, subst, arith, zero-le, zero-add, add-zero}
use Rattle.std.specs.List.{range_with_len}
use Rattle.std.specs.Option.{option_to_list}
use Rattle.std.proofs.lemmas.List.{length-replicate}
use Rattle.std.proofs.lemmas.Option.{same_Some, none-some, slice_get-map, slice_get_within}
use Rattle.ga_place.specs.declared.side.Side.{Side}
use Rattle.ga_place.specs.declared.side.Side.TheVariants.{Right, Down, Left, Up}
use Rattle.ga_place.specs.Cell.{index_of, name_at}
use Rattle.ga_place.proofs.Cells.{name_back}
use Rattle.ga_chip.specs.Part.{Part, count_at}
use Rattle.ga_chip.specs.Chip.{part_of, pending, reset_part, no_counts, reset_chip}
use Rattle.ga_chip.specs.Legal.{IsLegal}

pub how_long : length reset_chip.parts ≡ 144
unfolding reset_chip
how_long = refl

pub how_wide : length reset_chip.cells ≡ 524
unfolding reset_chip
how_wide = length-replicate {A = Option ℕ} 524 None

in_range : (n from i x : ℕ) → slice_get (range_with_len from n) i ≡ Some x → x ≡ from + i
in_range zero from i x e = absurd (none-some x e)
in_range (suc n) from zero x e = let same : from ≡ x = same_Some from x e in omega arith
in_range (suc n) from (suc i) x e =
    let rest : x ≡ from + 1 + i = in_range n (from + 1) i x e in omega arith

mapped : (f : ℕ → Part) (o : Option ℕ) (part : Part) → option_map f o ≡ Some part
    → (x : ℕ) × (o ≡ Some x) × (part ≡ f x)
mapped f None part e = absurd (none-some part e)
mapped f (Some x) part e = (x, refl, sym (same_Some (f x) part e))

pub is_reset : (name : ℕ) (part : Part) → part_of reset_chip name ≡ Some part
    → part ≡ reset_part name
unfolding reset_chip
is_reset name part there =
    let below : index_of name < 144 = subst (λ n. index_of name < n) how_long
    (slice_get_within reset_chip.parts (index_of name) part there) in
    let at = mapped (λ index. reset_part (name_at index))
    (slice_get (range_with_len 0 144) (index_of name)) part (sym (slice_get-map
    (λ index. reset_part (name_at index)) (range_with_len 0 144) (index_of name)) ∙ there) in
    let index : at.0 ≡ index_of name = in_range 144 0 (index_of name) at.0 at.1 ∙ zero-add _ in
    at.2 ∙ ap (λ i. reset_part (name_at i)) index ∙ ap reset_part (name_back name below)

pub nothing : (side : Side) → count_at side no_counts ≡ 0
nothing Right = refl
nothing Down = refl
nothing Left = refl
nothing Up = refl

none_in : (n cell word : ℕ) → get_or {A = Option ℕ} (replicate n None) cell None ≡ Some word → ⊥
none_in zero cell word e = none-some word e
none_in (suc n) zero word e = none-some word e
none_in (suc n) (suc cell) word e = none_in n cell word e

pub empty : (cell : ℕ) → pending reset_chip cell ≡ None
unfolding reset_chip
empty cell = by (get_or {A = Option ℕ} (replicate 524 None) cell None) refl
  where
    by : (o : Option ℕ) → get_or {A = Option ℕ} (replicate 524 None) cell None ≡ o
        → get_or {A = Option ℕ} (replicate 524 None) cell None ≡ None
    by None e = e
    by (Some word) e = absurd (none_in 524 cell word e)

pub reset_legal : IsLegal reset_chip
reset_legal = record {
  parts = how_long;
  cells = how_wide;
  named = λ name part there. ap (λ p. p.state.node) (is_reset name part there);
  balanced = λ name other cell side writer reader here next there there'.
      ap (λ p. count_at side p.written) (is_reset name writer there) ∙ nothing side
      ∙ sym (nothing side) ∙ ap (λ p. count_at side p.read) (sym (is_reset other reader there'))
      ∙ sym (add-zero _)
      ∙ ap (λ o. count_at side reader.read + length (option_to_list o)) (sym (empty cell));
  checked =
      λ name cell word side writer here there is. absurd (none-some word (sym (empty cell) ∙ is));
  within_steps = λ name side writer there. subst (λ p. count_at side p.written ≤ p.state.steps)
      (sym (is_reset name writer there)) (subst (λ n. n ≤ 0) (sym (nothing side)) zero-le);
}

-- the chip that the code makes
pub reset_at : (parts : List Part) (cells : List (Option ℕ))
    → parts ≡ map (λ index. reset_part (name_at index)) (range_with_len 0 144)
    → cells ≡ replicate 524 None → record { parts = parts; cells = cells } ≡ reset_chip
unfolding reset_chip
reset_at parts cells e f = ap₂ (λ ps cs. record { parts = ps; cells = cs }) e f

-- when the code has made all nodes
pub all_nodes : (parts : List Part) (index : ℕ)
    → parts ≡ map (λ index. reset_part (name_at index)) (range_with_len 0 index) → 144 ≤ index
    → index ≤ 144 → parts ≡ map (λ index. reset_part (name_at index)) (range_with_len 0 144)
all_nodes parts index e reached within =
    let last : index ≡ 144 = omega arith in
    e ∙ ap (λ n. map (λ index. reset_part (name_at index)) (range_with_len 0 n)) last
