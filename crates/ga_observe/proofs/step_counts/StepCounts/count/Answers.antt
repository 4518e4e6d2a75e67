use Rattle.std.proofs.Common.{◌∙◌, ◌-◌, ◌^◌, ap, get_or}
use Rattle.std.specs.Prelude.{min}
use Rattle.ga_observe.specs.Counts.{count_of}
use Rattle.ga_observe.proofs.step_counts.StepCounts.count.Goals as goal

pub returns : goal.returns
returns c steps seen =
    ap (λ counts. get_or counts c.index.result 0) c.self.view_is
    ∙ seen.counted c.index.result c.index.ensures.bound
    ∙ ap (λ name. min (count_of name steps) (2 ^ 64 - 1)) c.index.ensures.back
