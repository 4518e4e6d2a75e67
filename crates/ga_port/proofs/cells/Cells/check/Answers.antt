use Rattle.ga_port.proofs.Moves.{check_moved, check_unmoved}
use Rattle.ga_port.proofs.cells.Cells.check.Goals as goal

pub returns-clause-moved : goal.returns-clause-moved
returns-clause-moved c empty = check_moved _ c.args.what c.args.cell c.requires.asks

pub returns-clause-waits : goal.returns-clause-waits
returns-clause-waits c word full = check_unmoved _ c.args.what c.args.cell word c.requires.asks
