use Rattle.std.proofs.Common.{ap, ◌∙◌, subst, sym}
use Rattle.ga_node.specs.Need.{is_post, need_of}
use Rattle.ga_chip.specs.inner.Within.{StepsBound}
use Rattle.ga_chip.proofs.Within.{ports_stay, post_bound, post_runs, room}
use Rattle.ga_chip.proofs.part.NodePart.post.Goals as goal

pub count-requires : goal.count-requires
count-requires c =
    room c.args.to c.self.inside.written c.self.inside.state
    (post_runs _ (ap (λ p. is_post (need_of p.state)) c.self.view_is ∙ ap is_post c.requires))
    c.self.invariant.0.fits c.self.invariant.0.writes

pub invariant_of-self : goal.invariant_of-self
invariant_of-self c = (
  subst (λ written. StepsBound c.step_post.new.self.steps written c.self.inside.read)
      (sym c.count.ensures)
      (post_bound c.args.to c.self.inside.state c.step_post.new.self.steps c.self.inside.written
      c.self.inside.read (post_runs _ (ap (λ p. is_post (need_of p.state)) c.self.view_is
      ∙ ap is_post c.requires)) c.step_post.ensures.counted c.self.invariant.0),
  ports_stay c.self.inside.state c.step_post.new.self _ c.self.inside.ports c.step_post.ensures.row
      c.self.invariant.1,
  c.self.invariant.2,
)
