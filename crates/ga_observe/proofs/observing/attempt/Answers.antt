use Rattle.std.proofs.Common.{◌∙◌, ap, subst, sym}
use Rattle.ga_observe.specs.Seen.{Sees}
use Rattle.ga_observe.proofs.Deeds.{no_step}
use Rattle.ga_observe.proofs.Watched.{sees_none}
use Rattle.ga_observe.proofs.observing.attempt.Goals as goal

pub returns-in-Moved-clause-seen : goal.returns-in-Moved-clause-seen
returns-in-Moved-clause-seen g c =
    subst (Sees g.O.Observer.has_seen c.args.observer.now c.see.new.self)
    (sym (c.next_step-step.ensures
    (sym (ap (λ r. r.0) c.attempt-outcome.ensures.chip) ∙ c.in-Moved.is))) c.see.ensures

pub returns-in_default-clause-seen : goal.returns-in_default-clause-seen
returns-in_default-clause-seen g c =
    subst (Sees g.O.Observer.has_seen c.args.observer.now c.args.observer.now)
    (sym (no_step c.args.chip.now c.args.what.node c.args.turn c.args.what.side
    (λ moved. c.in_default.not-Moved (ap (λ r. r.0) c.attempt-outcome.ensures.chip ∙ moved))))
    (sees_none g.O.Observer.has_seen c.args.observer.now)
