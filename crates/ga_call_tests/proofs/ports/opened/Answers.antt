use Rattle.std.proofs.Common.{◌∙◌, ap, refl, rules, sym}
use Rattle.ga_port.specs.Seat.{untried}
use Rattle.ga_call_tests.proofs.Hands.{starts_kept}
use Rattle.ga_call_tests.proofs.ports.opened.Goals as goal

pub returns : goal.returns
returns c =
    record {
      own = search rules;
      same = starts_kept _ _ _ c.into_parts-parts.ensures.legal
          (c.in_ok-cells.ensures.nodes ∙ ap untried (sym c.into_parts-parts.ensures.parts)) refl;
    }
