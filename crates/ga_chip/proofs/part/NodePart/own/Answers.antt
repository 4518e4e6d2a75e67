use Rattle.std.proofs.Common.{ap, ◌∙◌}
use Rattle.ga_node.specs.Need.{need_of}
use Rattle.ga_node.proofs.Rows.{is_running}
use Rattle.ga_chip.proofs.Within.{ports_stay, step_bound}
use Rattle.ga_chip.proofs.part.NodePart.own.Goals as goal

pub invariant_of-self : goal.invariant_of-self
invariant_of-self c = (
  step_bound c.self.inside.state c.step_own.new.self.steps c.self.inside.written c.self.inside.read
      (ap (λ p. is_running (need_of p.state)) c.self.view_is ∙ ap is_running c.requires)
      c.step_own.ensures.counted c.self.invariant.0,
  ports_stay c.self.inside.state c.step_own.new.self _ c.self.inside.ports c.step_own.ensures.row
      c.self.invariant.1,
  c.self.invariant.2,
)
