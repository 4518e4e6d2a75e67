use Rattle.std.proofs.Common.{◌≡◌, ◌+◌, Some, arith}
use Rattle.std.proofs.lemmas.Grind.{common_steps}
use Rattle.ga_place.specs.Cell.{cell_of}
use Rattle.ga_place.proofs.CellNumbers.{cell_there}
use Rattle.ga_place.proofs.Cells.{one_writer}
use Rattle.ga_place.proofs.cell_id.cell.Goals as goal

pub returns-clause-alone : goal.returns-clause-alone
returns-clause-alone c = λ name at there.
    let number = c.cells_before.result + c.rank.result in
    let here : cell_of c.args.node c.args.side ≡ Some number =
    grind (arith, common_steps, cell_there) in
    one_writer name c.args.node number at c.args.side there here
