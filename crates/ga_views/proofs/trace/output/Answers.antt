use Rattle.std.proofs.Common.{Ok, option_map, string_bytes, subst, sym}
use Rattle.ga_views.specs.TraceJob.{IsTraceOutput}
use Rattle.ga_views.proofs.trace.output.Goals as goal

pub returns : goal.returns
returns c =
    subst (λ text. IsTraceOutput c.args.loading.now c.args.turns
    (option_map string_bytes c.args.names.now) c.args.input.now (Ok text))
    (sym c.in_ok-text.ensures) c.in_ok-made.ensures
