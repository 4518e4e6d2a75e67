use Rattle.std.proofs.Common.{◌-◌, ◌/◌, ◌<◌, arith, subst, sym}
use Rattle.ga_report.proofs.Following.{within_columns}
use Rattle.ga_report.proofs.trail.column_at.Goals as goal

pub returns-then-turn-from-clause-bound : goal.returns-then-turn-from-clause-bound
returns-then-turn-from-clause-bound c =
    let part = c.args.part in
    subst (λ stride. (c.args.turn - part.first) / stride < 600) (sym c.stride_of.ensures.value)
    (within_columns part (c.args.turn - part.first) (omega arith))
