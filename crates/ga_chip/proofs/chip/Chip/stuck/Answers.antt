use Rattle.std.proofs.Common.{ap, subst, ◌∙◌}
use Rattle.ga_chip.specs.Stuck.{HoldsEachClosed, has_node}
use Rattle.ga_chip.proofs.chip.Chip.stuck.Goals as goal

pub returns-clause-largest : goal.returns-clause-largest
returns-clause-largest c =
    subst (λ chip. HoldsEachClosed chip (has_node c.stuck_nodes.result))
    (ap (λ parts. record { parts = parts; cells = c.self.inside.cells }) c.deref.ensures.value
    ∙ c.self.view_is) c.stuck_nodes.ensures.largest
