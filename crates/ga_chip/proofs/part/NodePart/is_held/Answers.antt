use Rattle.std.proofs.Common.{◌≡◌, ap, ap₂, ◌∙◌, ◌%◌, ◌^◌, false, get_or, sym}
use Rattle.std.specs.Prelude.{◌&&◌, not}
use Rattle.ga_node.specs.State.{is_fetch}
use Rattle.ga_chip.specs.Part.{is_held}
use Rattle.ga_chip.proofs.Plain.{free_asks, held_asks, stopped_asks}
use Rattle.ga_chip.proofs.part.NodePart.is_held.Goals as goal

pub returns-in-Stopped-clause-free : goal.returns-in-Stopped-clause-free
returns-in-Stopped-clause-free c =
    λ not_held side. stopped_asks c.args.self.now side c.args.need.now c.in-Stopped.field-0
    c.in-Stopped.is c.requires

pub returns-in_default : goal.returns-in_default
returns-in_default c =
    let held : is_held c.args.self.now ≡ c.holds.result =
    ap is_held (sym c.self.view_is)
    ∙ ap₂ (λ place p. is_fetch place
    && (not c.self.inside.watch.pass && get_or c.self.inside.watch.breaks (p % 2 ^ 9) false))
    (sym c.place.ensures) (sym c.p.ensures.value)
    ∙ sym c.holds.ensures in
    record {
      held = λ yes side. held_asks c.args.self.now side c.args.need.now
          (held ∙ yes) c.requires c.in_default.not-Stopped;
      free = λ not_held side. free_asks c.args.self.now side c.args.need.now
          (held ∙ not_held) c.requires;
    }
