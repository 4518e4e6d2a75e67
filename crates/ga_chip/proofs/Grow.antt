-- Over a run each ledger grows by the words written and those taken.
use Rattle.std.proofs.Common.{◌≡◌, ℕ, ◌+◌, ◌<◌, nat_lt, true, List, length, get_or, Some, refl, subst}
use Rattle.std.specs.Prelude.{◌==◌}
use Rattle.std.specs.List.{list_all}
use Rattle.std.proofs.lemmas.Bool.{and_parts, eqb-true, ltb-true}
use Rattle.std.proofs.lemmas.List.Quantifiers.{position-Some}
use Rattle.ga_place.specs.Node.{IsNodeName}
use Rattle.ga_place.specs.Cell.{all_cells, cell_of, index_of, is_cell}
use Rattle.ga_place.specs.Side.{side_bit}
use Rattle.ga_place.specs.declared.side.Side.{Side}
use Rattle.ga_place.specs.declared.side.Side.TheVariants.{Right}
use Rattle.ga_place.proofs.Cells.{is_node, neighbour_there, passes, reader_there}
use Rattle.ga_place.proofs.SideLemmas.{neighbour_of-IsNodeName}
use Rattle.ga_chip.specs.Chip.{Chip}
use Rattle.ga_chip.specs.Ledger.{ledger_of}
use Rattle.ga_chip.specs.Run.{Event, ran, written_words, taken_words}
use Rattle.ga_chip.specs.Grow.{LedgersGrow}
use Rattle.ga_chip.specs.Legal.{IsLegal}
use Rattle.ga_chip.proofs.Kept.{legal_ran}
use Rattle.ga_chip.proofs.Numbers.{part_there, read_grows, written_grows}

all_named : list_all (λ cell. nat_lt (index_of cell.0) 144) all_cells ≡ true
unfolding all_cells
all_named = refl

-- what writes a cell is a node
cell_named : (name cell : ℕ) (side : Side) → cell_of name side ≡ Some cell → IsNodeName name
unfolding cell_of
cell_named name cell side e =
    let at = position-Some (is_cell name side) all_cells cell (0, Right) e in
    let named = passes (λ c. nat_lt (index_of c.0) 144) all_cells cell (0, Right) at.0 all_named in
    let found : ℕ × Side = get_or all_cells cell (0, Right) in
    let same : found.0 ≡ name = eqb-true found.0 name
    (and_parts (found.0 == name) (side_bit found.1 == side_bit side) at.1).0 in
    is_node name (subst (λ n. index_of n < 144) same (ltb-true (index_of found.0) 144 named))

written_by : (chip : Chip) (events : List Event) (name cell : ℕ) (side : Side) → IsLegal chip
    → cell_of name side ≡ Some cell → (ledger_of (ran chip events) name side).written
    ≡ (ledger_of chip name side).written + length (written_words chip events cell)
written_by chip events name cell side legal here =
    let named = cell_named name cell side here in
    let before = part_there chip name legal named in
    let after = part_there (ran chip events) name (legal_ran chip events legal) named in
    rw (here, before.1, after.1)
    (written_grows chip events name cell side before.0 after.0 legal here before.1 after.1)

read_by : (chip : Chip) (events : List Event) (name cell : ℕ) (side : Side) → IsLegal chip
    → cell_of name side ≡ Some cell → (ledger_of (ran chip events) name side).read
    ≡ (ledger_of chip name side).read + length (taken_words chip events cell)
read_by chip events name cell side legal here =
    let named = cell_named name cell side here in
    let there = neighbour_there name cell side here in
    let named' = neighbour_of-IsNodeName name there.0 side named there.1 in
    let before = part_there chip there.0 legal named' in
    let after = part_there (ran chip events) there.0 (legal_ran chip events legal) named' in
    rw (here, there.1, before.1, after.1) (read_grows chip events there.0 cell side before.0 after.0
    legal named' (reader_there name there.0 cell side named here there.1) before.1 after.1)

pub ledgers_grow : (chip : Chip) (events : List Event) → IsLegal chip
    → LedgersGrow chip (ran chip events) events
ledgers_grow chip events legal = record {
  written = λ name cell side here. written_by chip events name cell side legal here;
  read = λ name cell side here. read_by chip events name cell side legal here;
}
