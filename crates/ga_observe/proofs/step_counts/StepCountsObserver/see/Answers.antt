use Rattle.std.proofs.Common.{subst, sym}
use Rattle.ga_observe.specs.Counts.{Counts}
use Rattle.ga_observe.proofs.Counting.{counts_more}
use Rattle.ga_observe.proofs.step_counts.StepCountsObserver.see.Goals as goal

pub returns : goal.returns
returns c begun steps seen =
    counts_more c.self.inside.counts c.index-index.result c.saturating_add.result c.args.step steps
    c.index-index.ensures.bound c.index-index.ensures.back c.saturating_add.ensures
    (subst (λ counts. Counts counts steps) (sym c.self.view_is) seen)
