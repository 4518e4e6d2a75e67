use Rattle.std.proofs.Common.{ap, ◌∙◌, subst, sym}
use Rattle.ga_node.specs.Need.{need_of, takes_at}
use Rattle.ga_chip.specs.inner.Within.{StepsBound}
use Rattle.ga_chip.proofs.Within.{ports_stay, room, take_bound, take_runs}
use Rattle.ga_chip.proofs.part.NodePart.take.Goals as goal

pub count-requires : goal.count-requires
count-requires c =
    room c.args.from c.self.inside.read c.self.inside.state
    (take_runs c.args.from _ (ap (λ p. takes_at c.args.from (need_of p.state)) c.self.view_is
    ∙ c.requires)) c.self.invariant.0.fits c.self.invariant.0.reads

pub invariant_of-self : goal.invariant_of-self
invariant_of-self c = (
  subst (λ read. StepsBound c.step_took.new.self.steps c.self.inside.written read)
      (sym c.count.ensures)
      (take_bound c.args.from c.self.inside.state c.step_took.new.self.steps c.self.inside.written
      c.self.inside.read
      (take_runs c.args.from _ (ap (λ p. takes_at c.args.from (need_of p.state)) c.self.view_is
      ∙ c.requires)) c.step_took.ensures.counted c.self.invariant.0),
  ports_stay c.self.inside.state c.step_took.new.self _ c.self.inside.ports c.step_took.ensures.row
      c.self.invariant.1,
  c.self.invariant.2,
)
