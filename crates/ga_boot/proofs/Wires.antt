-- Each side of a node with a neighbour has a cell.
use Rattle.std.proofs.Common.{◌≡◌, ℕ, zero, suc, ◌<◌, Bool, true, ◌⊎◌, inl, inr, Option, Some, None, is_some, refl, ap, ◌∙◌, subst, arith}
use Rattle.std.specs.Prelude.{◌||◌, ◌&&◌, not}
use Rattle.std.proofs.lemmas.Bool.{and_parts, cases_eq, false≢true}
use Rattle.std.proofs.lemmas.Grind.{common_steps}
use Rattle.ga_place.specs.Node.{IsNodeName}
use Rattle.ga_place.specs.Side.{has_side, neighbour_of}
use Rattle.ga_place.specs.declared.side.Side.{Side}
use Rattle.ga_place.specs.declared.side.Side.TheVariants.{Right, Down, Left, Up}
use Rattle.ga_place.specs.Cell.{index_of, name_at, cell_of, all_cells}
use Rattle.ga_place.proofs.Cells.{name_back}

abbrev wired : Side → ℕ → Bool
wired side index = not (has_side (name_at index) side) || is_some (cell_of (name_at index) side)

below : ℕ → (ℕ → Bool) → Bool
below zero f = true
below (suc n) f = f n && below n f

below_at : (n i : ℕ) (f : ℕ → Bool) → below n f ≡ true → i < n → f i ≡ true
unfolding below
below_at zero i f e h = absurd (omega arith)
below_at (suc n) i f e h = by (cases_eq i n) (below_at n i f (and_parts (f n) (below n f) e).1)
  where
    by : (i ≡ n) ⊎ (i ≡ n → ⊥) → (i < n → f i ≡ true) → f i ≡ true
    by (inl same) on = ap f same ∙ (and_parts (f n) (below n f) e).0
    by (inr apart) on = on (omega arith)

all_right : below 144 (wired Right) ≡ true
unfolding below cell_of all_cells
all_right = refl

all_down : below 144 (wired Down) ≡ true
unfolding below cell_of all_cells
all_down = refl

all_left : below 144 (wired Left) ≡ true
unfolding below cell_of all_cells
all_left = refl

all_up : below 144 (wired Up) ≡ true
unfolding below cell_of all_cells
all_up = refl

all_wired : (side : Side) → below 144 (wired side) ≡ true
all_wired Right = all_right
all_wired Down = all_down
all_wired Left = all_left
all_wired Up = all_up

some_cell : (o : Option ℕ) → is_some o ≡ true → (cell : ℕ) × (o ≡ Some cell)
some_cell None e = absurd (false≢true e)
some_cell (Some cell) e = (cell, refl)

-- a side with a neighbour has a cell
pub wire : (name other : ℕ) (side : Side) → IsNodeName name → neighbour_of name side ≡ Some other
    → (cell : ℕ) × (cell_of name side ≡ Some cell)
wire name other side named there =
    some_cell (cell_of name side) (subst (λ b. not b || is_some (cell_of name side) ≡ true)
    (ap is_some there) (subst (λ n. not (has_side n side) || is_some (cell_of n side) ≡ true)
    (name_back name low) (below_at 144 (index_of name) (wired side) (all_wired side) low)))
  where
    low : index_of name < 144
    low = grind (arith, common_steps)
