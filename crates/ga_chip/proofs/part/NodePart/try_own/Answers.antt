use Rattle.std.proofs.Common.{None, ap, ◌∙◌, sym, ◌||◌}
use Rattle.std.specs.Prelude.{if◌then◌else◌, not}
use Rattle.std.proofs.lemmas.Bool.{not-true}
use Rattle.ga_node.specs.State.{is_fetch}
use Rattle.ga_node.specs.Need.{need_of}
use Rattle.ga_chip.specs.Part.{Part, asks, stepped}
use Rattle.ga_chip.proofs.Plain.{behind_fetch_made, own_asks, own_part}
use Rattle.ga_chip.proofs.Within.{quick_bound, quick_ports}
use Rattle.ga_chip.proofs.part.NodePart.try_own.Goals as goal

pub invariant_of-self : goal.invariant_of-self
invariant_of-self c = (
  quick_bound c.self.inside.state c.try_step.new.self
      (not (is_fetch c.self.inside.state.place) || not c.is_on.result) c.self.inside.written
      c.self.inside.read c.try_step.ensures.step c.self.invariant.0,
  quick_ports c.self.inside.state c.try_step.new.self (not (is_fetch c.self.inside.state.place)
      || not c.is_on.result) c.self.inside.ports c.try_step.ensures.step c.self.invariant.1,
  c.self.invariant.2,
)

pub returns-clause-asks : goal.returns-clause-asks
returns-clause-asks c = λ yes side.
    let part : Part = record {
      state = c.self.inside.state;
      breaks = c.self.inside.watch.breaks;
      pass = c.self.inside.watch.pass;
      stream = c.self.inside.stream;
      opened = c.self.inside.opened;
      written = c.self.inside.written;
      read = c.self.inside.read;
    } in
    sym (ap (λ p. asks p side) c.self.view_is)
    ∙ own_asks part (not c.is_on.result) side
    (sym c.try_step.ensures.own ∙ yes) (λ off. (c.is_on.ensures (not-true _ off)).0)

pub returns-clause-quick : goal.returns-clause-quick
returns-clause-quick c = λ own off.
    behind_fetch_made (not c.is_on.result) c.try_step.result c.self.inside.state.place
    (need_of c.self.inside.state) c.try_step.ensures.own (ap (λ p. need_of p.state) c.self.view_is
    ∙ own) (ap (λ p. is_fetch p.state.place) c.self.view_is ∙ off)

pub returns-clause-step : goal.returns-clause-step
returns-clause-step c =
    let part : Part = record {
      state = c.self.inside.state;
      breaks = c.self.inside.watch.breaks;
      pass = c.self.inside.watch.pass;
      stream = c.self.inside.stream;
      opened = c.self.inside.opened;
      written = c.self.inside.written;
      read = c.self.inside.read;
    } in
    own_part part c.try_step.new.self c.try_step.result (not c.is_on.result) c.try_step.ensures.own
    c.try_step.ensures.step (λ off. (c.is_on.ensures (not-true _ off)).1)
    ∙ ap (λ p. if c.try_step.result then stepped None p else p) c.self.view_is
