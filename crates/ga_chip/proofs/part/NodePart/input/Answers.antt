use Rattle.std.proofs.Common.{◌∙◌, ap, refl}
use Rattle.ga_node.specs.Need.{need_of}
use Rattle.ga_chip.proofs.Within.{input_runs, ports_stay, step_bound}
use Rattle.ga_chip.proofs.part.NodePart.input.Goals as goal

pub invariant_of-self-2 : goal.invariant_of-self-2
invariant_of-self-2 c = (
  step_bound c.self.inside.state c.step_input.new.self.steps c.self.inside.written
      c.self.inside.read (input_runs _ (ap (λ p. need_of p.state) c.self.view_is ∙ c.requires))
      c.step_input.ensures.counted c.self.invariant.0,
  ports_stay c.self.inside.state c.step_input.new.self _ c.self.inside.ports
      c.step_input.ensures.row c.self.invariant.1,
  λ opened. refl,
)
