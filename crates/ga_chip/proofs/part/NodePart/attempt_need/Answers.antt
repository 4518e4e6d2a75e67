use Rattle.std.proofs.Common.{ap, ◌∙◌, subst, sym}
use Rattle.ga_node.specs.Need.{need_of}
use Rattle.ga_chip.specs.inner.Awake.{partner_of}
use Rattle.ga_place.specs.Cell.{index_of}
use Rattle.std.specs.Prelude.{option_map}
use Rattle.ga_chip.proofs.Stays.{Stays, still_all}
use Rattle.ga_chip.proofs.part.NodePart.attempt_need.Goals as goal

pub returns-in-Moved-clause-wakes : goal.returns-in-Moved-clause-wakes
returns-in-Moved-clause-wakes c = λ moved.
    c.meet-outcome.ensures.wakes moved
    ∙ ap (λ n. option_map index_of (partner_of c.args.self.now.state.node n c.args.side))
    c.requires.need

pub is_still-sleeps-requires : goal.is_still-sleeps-requires
is_still-sleeps-requires c =
    let same = still_all c.args.self.now c.meet-outcome.new.self c.args.cells.now
    c.meet-outcome.new.cells c.args.side c.meet-outcome.result.outcome c.meet-outcome.ensures.part
    c.meet-outcome.ensures.cells c.in_default.not-Moved in
    record {
      need = c.requires.need ∙ ap (λ p. need_of p.state) (sym same.0);
      still = (
        c.args.side,
        subst (λ p. Stays p c.meet-outcome.new.cells c.args.side) (sym same.0)
            (subst (λ cells. Stays c.args.self.now cells c.args.side) (sym same.1)
            (λ moved. c.in_default.not-Moved (ap (λ r. r.0) c.meet-outcome.ensures.part ∙ moved))),
      );
    }

pub returns : goal.returns
returns c =
    let same = still_all c.args.self.now c.meet-outcome.new.self c.args.cells.now
    c.meet-outcome.new.cells c.args.side c.meet-outcome.result.outcome c.meet-outcome.ensures.part
    c.meet-outcome.ensures.cells c.in_default.not-Moved in
    record {
      part = c.meet-outcome.ensures.part;
      cells = c.meet-outcome.ensures.cells;
      wakes = λ moved. absurd (c.in_default.not-Moved moved);
      place = tt;
      sleeps = λ yes other. subst (λ p. Stays p c.args.cells.now other) same.0
          (subst (λ cells. Stays c.meet-outcome.new.self cells other) same.1
          (c.is_still-sleeps.ensures yes other));
    }
