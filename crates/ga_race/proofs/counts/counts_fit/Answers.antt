use Rattle.std.proofs.Common.{◌<◌, ◌^◌, subst, sym}
use Rattle.ga_race.proofs.Fitting.{fits_all, fits_more}
use Rattle.ga_race.proofs.counts.counts_fit.Goals as goal

pub loop-index-preserved : goal.loop-index-preserved
loop-index-preserved c =
    fits_more c.args.chip.now c.loop-index.index c.at.result c.state.result.now (sym c.at.ensures)
    c.state.ensures (subst (λ n. n < 2 ^ 64) c.steps-steps.ensures c.steps-steps.type_inv)
    c.loop-index.invariant

pub returns : goal.returns
returns c =
    fits_all c.args.chip.now c.loop-index.index c.legal.ensures c.loop-index-test.false
    c.loop-index.invariant
