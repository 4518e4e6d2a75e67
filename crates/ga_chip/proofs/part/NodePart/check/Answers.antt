use Rattle.std.proofs.Common.{ap, ◌∙◌}
use Rattle.ga_node.specs.Need.{is_check, need_of}
use Rattle.ga_chip.proofs.Within.{check_runs, ports_stay, step_bound}
use Rattle.ga_chip.proofs.part.NodePart.check.Goals as goal

pub invariant_of-self : goal.invariant_of-self
invariant_of-self c = (
  step_bound c.self.inside.state c.step_checked.new.self.steps c.self.inside.written
      c.self.inside.read (check_runs _ (ap (λ p. is_check (need_of p.state)) c.self.view_is
      ∙ c.requires)) c.step_checked.ensures.counted c.self.invariant.0,
  ports_stay c.self.inside.state c.step_checked.new.self _ c.self.inside.ports
      c.step_checked.ensures.row c.self.invariant.1,
  c.self.invariant.2,
)
