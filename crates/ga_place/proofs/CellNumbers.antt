-- The number of a cell in closed form.
use Rattle.std.proofs.Common.{◌≡◌, ℕ, ◌+◌, ◌==◌, Bool, true, false, ◌<◌, length, get_or, Option, Some, None, refl, sym, ap, ◌∙◌, subst, zero-add, lit<}
use Rattle.std.specs.List.{range_with_len, list_all}
use Rattle.std.proofs.lemmas.Bool.{eqb-true, false≢true}
use Rattle.std.proofs.lemmas.List.FromFn.{get_or-range_with_len}
use Rattle.ga_place.specs.Node.{IsNodeName}
use Rattle.ga_place.specs.Side.{SIDES, has_side}
use Rattle.ga_place.specs.declared.side.Side.{Side}
use Rattle.ga_place.specs.declared.side.Side.TheVariants.{Right, Down, Left, Up}
use Rattle.ga_place.specs.Cell.{all_cells, cell_of, index_of, name_at}
use Rattle.ga_place.specs.inner.CellNumber.{cell_number, cells_before, rank}
use Rattle.ga_place.proofs.Cells.{index_below, name_back, passes}

abbrev same : Option ℕ → Option ℕ → Bool
same None None = true
same (Some m) (Some n) = m == n
same _ _ = false

abbrev agrees : ℕ → Side → Bool
agrees name side = same (cell_of name side) (cell_number name side)

abbrev agree : ℕ → Bool
agree name = list_all (agrees name) SIDES

all_agree : list_all (λ index. agree (name_at index)) (range_with_len 0 144) ≡ true
unfolding cell_of all_cells
all_agree = refl

-- two numbers that may be there are the same
same_is : (a b : Option ℕ) → same a b ≡ true → a ≡ b
same_is None None e = refl
same_is None (Some n) e = absurd (false≢true e)
same_is (Some m) None e = absurd (false≢true e)
same_is (Some m) (Some n) e = ap Some (eqb-true m n e)

how_many_nodes : 144 ≡ length (range_with_len 0 144)
how_many_nodes = refl

agreed : (name : ℕ) → index_of name < 144 → agree name ≡ true
agreed name below =
    let at : ℕ → Bool = λ index. agree (name_at index) in
    let there : get_or (range_with_len 0 144) (index_of name) 0 ≡ index_of name =
    get_or-range_with_len 0 144 (index_of name) 0 below ∙ zero-add (index_of name) in
    let within : index_of name < length (range_with_len 0 144) =
    subst (λ n. index_of name < n) how_many_nodes below in
    ap agree (sym (name_back name below)) ∙ ap at (sym there)
    ∙ passes at (range_with_len 0 144) (index_of name) 0 within all_agree

at_side : (p : Side → Bool) (side : Side) → list_all p SIDES ≡ true → p side ≡ true
at_side p Right all = passes p SIDES 0 Right (lit< tt) all
at_side p Down all = passes p SIDES 1 Right (lit< tt) all
at_side p Left all = passes p SIDES 2 Right (lit< tt) all
at_side p Up all = passes p SIDES 3 Right (lit< tt) all

-- the number of a cell: those of the rows before, of the nodes before in its row, and of the node's
-- sides before
pub cell_of-number : (name : ℕ) (side : Side) → index_of name < 144
    → cell_of name side ≡ cell_number name side
cell_of-number name side below =
    same_is (cell_of name side) (cell_number name side)
    (at_side (agrees name) side (agreed name below))

-- a node writes no cell at a side that it lacks
pub no_cell : (name : ℕ) (side : Side) → IsNodeName name → has_side name side ≡ false
    → cell_of name side ≡ None
no_cell name side named lacks = cell_of-number name side (index_below name named) ∙ rw lacks

-- the cell that a node writes at a side that it has
pub cell_there : (name : ℕ) (side : Side) → IsNodeName name → has_side name side ≡ true
    → cell_of name side ≡ Some (cells_before name + rank name side)
cell_there name side named has = cell_of-number name side (index_below name named) ∙ rw has
