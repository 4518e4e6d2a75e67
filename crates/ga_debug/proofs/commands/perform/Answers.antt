use Rattle.std.proofs.Common.{Err, ap}
use Rattle.ga_place.specs.declared.side.Side.TheVariants.{Right}
use Rattle.ga_chip.specs.Chip.{tried}
use Rattle.ga_debug.proofs.Passing.{not_held}
use Rattle.ga_debug.proofs.commands.perform.Goals as goal

pub returns-in-Err-clause-same : goal.returns-in-Err-clause-same
returns-in-Err-clause-same c =
    c.in-Err.ensures.same (ap Err (not_held (tried c.args.chip.now c.args.given.now.node Right).0
    c.in-Err.field-0 (c.in-Err.ensures.refused Right)))
