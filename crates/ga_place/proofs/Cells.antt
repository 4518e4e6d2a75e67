-- Each cell has one writer and one reader.
use Rattle.std.proofs.Common.{◌≡◌, ℕ, ◌<◌, List, length, true, get_or, Option, Some, None, refl, sym, ap, ◌∙◌, subst, arith, Bool, is_some, ap₂}
use Rattle.std.specs.Prelude.{if◌then◌else◌, ◌==◌}
use Rattle.std.specs.List.{list_all}
use Rattle.std.proofs.lemmas.List.Sums.{AllPass-from_list_all}
use Rattle.std.proofs.lemmas.Grind.{common_steps}
use Rattle.std.proofs.lemmas.List.Quantifiers.{position-Some}
use Rattle.std.proofs.lemmas.Bool.{and_parts, eqb-true, false≢true}
use Rattle.std.proofs.lemmas.Option.{option_and_then_some, same_Some}
use Rattle.ga_place.specs.Node.{IsNodeName}
use Rattle.ga_place.specs.Side.{neighbour_of, side_bit, has_side}
use Rattle.ga_place.specs.declared.side.Side.{Side}
use Rattle.ga_place.specs.declared.side.Side.TheVariants.{Right, Down, Left, Up}
use Rattle.ga_place.proofs.SideLemmas.{shared_port}
use Rattle.ga_place.specs.Cell.{all_cells, cell_of, index_of, is_cell, name_at, read_cell}

-- an item of a list whose items all pass a test passes it
pub passes : {X : Type 0} (p : X → Bool) (xs : List X) (index : ℕ) (default : X) → index < length xs
    → list_all p xs ≡ true → p (get_or xs index default) ≡ true
passes p xs index default below all = AllPass-from_list_all p xs all index default below

how_many : length all_cells ≡ 524
unfolding all_cells
how_many = refl

abbrev side_from : ℕ → Side
side_from bit =
    if bit == 0x80 then Right else if bit == 0x40 then Down else if bit == 0x20 then Left else Up

from_bit : (side : Side) → side_from (side_bit side) ≡ side
from_bit Right = refl
from_bit _ = refl

pub same_bit : (s t : Side) → side_bit s ≡ side_bit t → s ≡ t
same_bit s t e = sym (from_bit s) ∙ ap side_from e ∙ from_bit t

-- a cell's number is below 524
pub cell_below : (name cell : ℕ) (side : Side) → cell_of name side ≡ Some cell → cell < 524
unfolding cell_of
cell_below name cell side e =
    subst (λ n. cell < n) how_many (position-Some (is_cell name side) all_cells cell (0, Right) e).0

cell_there : (name cell : ℕ) (side : Side) → cell_of name side ≡ Some cell
    → ((get_or all_cells cell (0, Right)).0 ≡ name) × ((get_or all_cells cell (0, Right)).1 ≡ side)
unfolding cell_of
cell_there name cell side e =
    let parts = and_parts _ _ (position-Some (is_cell name side) all_cells cell (0, Right) e).1 in
    (eqb-true _ _ parts.0, same_bit _ _ (eqb-true _ _ parts.1))

-- a cell has one writer, at one side
pub one_writer : (a b cell : ℕ) (s t : Side) → cell_of a s ≡ Some cell → cell_of b t ≡ Some cell
    → (a ≡ b) × (s ≡ t)
one_writer a b cell s t e f =
    let here = cell_there a cell s e in
    let there = cell_there b cell t f in
    (sym here.0 ∙ there.0, sym here.1 ∙ there.1)

-- a cell that a node reads at a side is written there by its neighbour
pub writer_there : (name cell : ℕ) (side : Side) → read_cell name side ≡ Some cell
    → (other : ℕ) × (neighbour_of name side ≡ Some other) × (cell_of other side ≡ Some cell)
writer_there name cell side e =
    option_and_then_some (λ other. cell_of other side) (neighbour_of name side) cell e
    (λ other there is. (other, there, is))

-- a cell that is read is read by its writer's neighbour
pub reader_there : (name other cell : ℕ) (side : Side) → IsNodeName name
    → cell_of name side ≡ Some cell → neighbour_of name side ≡ Some other
    → read_cell other side ≡ Some cell
reader_there name other cell side named e there = rw (shared_port name other side named there) e

-- a cell has one reader, at one side
pub one_reader : (a b cell : ℕ) (s t : Side) → IsNodeName a → IsNodeName b
    → read_cell a s ≡ Some cell → read_cell b t ≡ Some cell → (a ≡ b) × (s ≡ t)
one_reader a b cell s t na nb e f =
    let (m, at, is) = writer_there a cell s e in
    let (n, bt, it) = writer_there b cell t f in
    let same = one_writer m n cell s t is it in
    let back : neighbour_of m s ≡ Some a = shared_port a m s na at in
    let back' : neighbour_of n t ≡ Some b = shared_port b n t nb bt in
    (same_Some a b (sym back ∙ ap₂' same.0 same.1 ∙ back'), same.1)
  where
    ap₂' : {m n : ℕ} {s t : Side} → m ≡ n → s ≡ t → neighbour_of m s ≡ neighbour_of n t
    ap₂' p q = cc

-- what has a place among the nodes is a node
pub is_node : (name : ℕ) → index_of name < 144 → IsNodeName name
is_node name below = grind (arith, common_steps)

-- nodes have different places
pub one_place : (a b : ℕ) → index_of a < 144 → index_of a ≡ index_of b → a ≡ b
one_place a b below e = grind (arith, common_steps)

-- a cell that a node writes has a neighbour to read it
all_have_sides : list_all (λ cell. has_side cell.0 cell.1) all_cells ≡ true
unfolding all_cells
all_have_sides = refl

has_neighbour : (name : ℕ) (side : Side) (o : Option ℕ) → neighbour_of name side ≡ o
    → has_side name side ≡ true → (other : ℕ) × (neighbour_of name side ≡ Some other)
has_neighbour name side None e h = absurd (false≢true (sym (ap is_some e) ∙ h))
has_neighbour name side (Some other) e h = (other, e)

pub neighbour_there : (name cell : ℕ) (side : Side) → cell_of name side ≡ Some cell
    → (other : ℕ) × (neighbour_of name side ≡ Some other)
unfolding cell_of
neighbour_there name cell side e =
    let at = cell_there name cell side e in
    let below = (position-Some (is_cell name side) all_cells cell (0, Right) e).0 in
    let has =
    passes (λ cell. has_side cell.0 cell.1) all_cells cell (0, Right) below all_have_sides in
    has_neighbour name side (neighbour_of name side) refl (ap₂ has_side (sym at.0) (sym at.1) ∙ has)

-- the place of a node has its name
pub name_back : (name : ℕ) → index_of name < 144 → name_at (index_of name) ≡ name
name_back name below = grind (arith, common_steps)

-- each node has a place
pub index_below : (name : ℕ) → IsNodeName name → index_of name < 144
index_below name named = grind (arith, common_steps)
