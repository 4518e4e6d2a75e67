use Rattle.std.proofs.Common.{◌∙◌, ap}
use Rattle.std.specs.Prelude.{nat_le}
use Rattle.ga_trace.specs.Depth.{has_made}
use Rattle.ga_trace.proofs.depth.has_made.Goals as goal

pub returns : goal.returns
returns c =
    ap (λ steps. nat_le c.args.goal steps) c.steps.ensures
    ∙ ap (has_made c.args.goal) c.state.ensures
