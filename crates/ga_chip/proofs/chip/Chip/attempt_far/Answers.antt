use Rattle.ga_place.specs.inner.Index.{index_back}
use Rattle.std.proofs.Common.{ap, ◌∙◌, sym}
use Rattle.ga_place.specs.Cell.{name_at}
use Rattle.ga_chip.specs.Chip.{tried}
use Rattle.ga_chip.proofs.Awake.{far_slept, far_woken, one_woken, none_woken}
use Rattle.ga_chip.proofs.Tries.{attempt_at, part_at}
use Rattle.ga_chip.proofs.chip.Chip.attempt_far.Goals as goal

pub invariant_of-self : goal.invariant_of-self
invariant_of-self c = (
    (far_slept (record { parts = c.self.inside.parts.items; cells = c.self.inside.cells }) _
    c.self.inside.awake c.remove.new.self c.args.index c.args.side c.index_mut.result.now
    c.attempt_far-far.result.outcome c.self.invariant
    (part_at (record { parts = c.self.inside.parts.items; cells = c.self.inside.cells })
    (name_at c.args.index) c.args.index c.index_mut.result.now c.self.invariant.legal.parts
    (sym (index_back c.args.index c.requires)) c.requires c.index_mut.ensures.value)
    (attempt_at (record { parts = c.self.inside.parts.items; cells = c.self.inside.cells })
    (name_at c.args.index) c.args.index c.args.side c.index_mut.result.now
    c.attempt_far-far.new.self c.attempt_far-far.result.outcome c.attempt_far-far.new.cells
    c.self.invariant.legal (sym (index_back c.args.index c.requires)) c.requires
    c.index_mut.ensures.value c.attempt_far-far.ensures.part c.attempt_far-far.ensures.cells)
    (c.attempt_far-far.ensures.sleeps c.if-far.true)
    c.remove.ensures)
    )

pub returns-then-far : goal.returns-then-far
returns-then-far c =
    (attempt_at (record { parts = c.self.inside.parts.items; cells = c.self.inside.cells })
    (name_at c.args.index) c.args.index c.args.side c.index_mut.result.now
    c.attempt_far-far.new.self c.attempt_far-far.result.outcome c.attempt_far-far.new.cells
    c.self.invariant.legal (sym (index_back c.args.index c.requires)) c.requires
    c.index_mut.ensures.value c.attempt_far-far.ensures.part c.attempt_far-far.ensures.cells)
    ∙ ap (λ z. tried z (name_at c.args.index) c.args.side) c.self.view_is

pub invariant_of-self-in-Some : goal.invariant_of-self-in-Some
invariant_of-self-in-Some c = (
    (far_woken (record { parts = c.self.inside.parts.items; cells = c.self.inside.cells }) _
    c.self.inside.awake c.insert.new.self c.args.index c.args.side c.index_mut.result.now
    c.attempt_far-far.result.outcome c.attempt_far-far.result.wakes c.self.invariant c.requires
    (part_at (record { parts = c.self.inside.parts.items; cells = c.self.inside.cells })
    (name_at c.args.index) c.args.index c.index_mut.result.now c.self.invariant.legal.parts
    (sym (index_back c.args.index c.requires)) c.requires c.index_mut.ensures.value)
    (attempt_at (record { parts = c.self.inside.parts.items; cells = c.self.inside.cells })
    (name_at c.args.index) c.args.index c.args.side c.index_mut.result.now
    c.attempt_far-far.new.self c.attempt_far-far.result.outcome c.attempt_far-far.new.cells
    c.self.invariant.legal (sym (index_back c.args.index c.requires)) c.requires
    c.index_mut.ensures.value c.attempt_far-far.ensures.part c.attempt_far-far.ensures.cells)
    c.attempt_far-far.ensures.wakes
    (one_woken c.self.inside.awake c.insert.new.self c.in-Some.other c.attempt_far-far.result.wakes
    c.in-Some.is c.insert.ensures))
    )

pub invariant_of-self-in_default : goal.invariant_of-self-in_default
invariant_of-self-in_default c = (
    (far_woken (record { parts = c.self.inside.parts.items; cells = c.self.inside.cells }) _
    c.self.inside.awake c.self.inside.awake c.args.index c.args.side c.index_mut.result.now
    c.attempt_far-far.result.outcome c.attempt_far-far.result.wakes c.self.invariant c.requires
    (part_at (record { parts = c.self.inside.parts.items; cells = c.self.inside.cells })
    (name_at c.args.index) c.args.index c.index_mut.result.now c.self.invariant.legal.parts
    (sym (index_back c.args.index c.requires)) c.requires c.index_mut.ensures.value)
    (attempt_at (record { parts = c.self.inside.parts.items; cells = c.self.inside.cells })
    (name_at c.args.index) c.args.index c.args.side c.index_mut.result.now
    c.attempt_far-far.new.self c.attempt_far-far.result.outcome c.attempt_far-far.new.cells
    c.self.invariant.legal (sym (index_back c.args.index c.requires)) c.requires
    c.index_mut.ensures.value c.attempt_far-far.ensures.part c.attempt_far-far.ensures.cells)
    c.attempt_far-far.ensures.wakes
    (none_woken c.self.inside.awake c.attempt_far-far.result.wakes c.in_default.not-Some))
    )

pub returns-in-Some : goal.returns-in-Some
returns-in-Some c =
    (attempt_at (record { parts = c.self.inside.parts.items; cells = c.self.inside.cells })
    (name_at c.args.index) c.args.index c.args.side c.index_mut.result.now
    c.attempt_far-far.new.self c.attempt_far-far.result.outcome c.attempt_far-far.new.cells
    c.self.invariant.legal (sym (index_back c.args.index c.requires)) c.requires
    c.index_mut.ensures.value c.attempt_far-far.ensures.part c.attempt_far-far.ensures.cells)
    ∙ ap (λ z. tried z (name_at c.args.index) c.args.side) c.self.view_is

pub returns-in_default : goal.returns-in_default
returns-in_default c =
    (attempt_at (record { parts = c.self.inside.parts.items; cells = c.self.inside.cells })
    (name_at c.args.index) c.args.index c.args.side c.index_mut.result.now
    c.attempt_far-far.new.self c.attempt_far-far.result.outcome c.attempt_far-far.new.cells
    c.self.invariant.legal (sym (index_back c.args.index c.requires)) c.requires
    c.index_mut.ensures.value c.attempt_far-far.ensures.part c.attempt_far-far.ensures.cells)
    ∙ ap (λ z. tried z (name_at c.args.index) c.args.side) c.self.view_is
