use Rattle.ga_port.proofs.Moves.{take_moved}
use Rattle.ga_port.proofs.cells.Cells.take.Goals as goal

pub returns-clause-moved : goal.returns-clause-moved
returns-clause-moved c = take_moved _ c.args.what c.args.cell _ c.requires.asks
