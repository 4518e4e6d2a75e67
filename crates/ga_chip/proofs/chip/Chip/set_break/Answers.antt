use Rattle.ga_place.specs.inner.Index.{index_back}
use Rattle.std.proofs.Common.{ap, ◌∙◌, subst, sym}
use Rattle.ga_place.specs.Cell.{name_at}
use Rattle.ga_chip.specs.Chip.{Chip}
use Rattle.ga_chip.specs.Legal.{IsLegal}
use Rattle.ga_chip.specs.Run.{SetBreak, happened}
use Rattle.ga_chip.proofs.Awake.{stays_knows}
use Rattle.ga_chip.proofs.Kept.{legal_kept}
use Rattle.ga_chip.proofs.Stays.{Stays, set_stays}
use Rattle.ga_chip.proofs.Tries.{part_at}
use Rattle.ga_chip.proofs.Uses.{set_at}
use Rattle.ga_chip.proofs.chip.Chip.set_break.Goals as goal

pub invariant_of-self : goal.invariant_of-self
invariant_of-self c =
    let chip : Chip = record { parts = c.self.inside.parts.items; cells = c.self.inside.cells } in
    let part = c.index_mut.result.now in
    let index = c.index.result in (
    stays_knows chip c.self.inside.awake index part c.set_break.new.self c.self.invariant
    c.index.ensures.bound
    (part_at chip (name_at index) index part c.self.invariant.legal.parts (sym
    (index_back index c.index.ensures.bound)) c.index.ensures.bound c.index_mut.ensures.value)
    (λ side still. subst (λ p. Stays p chip.cells side) (sym c.set_break.ensures)
    (set_stays part chip.cells c.args.address side still))
    (subst IsLegal (sym (set_at chip c.args.node c.args.address index part c.set_break.new.self
    c.self.invariant.legal.parts c.index.ensures.value c.index.ensures.bound
    c.index_mut.ensures.value c.set_break.ensures))
    (legal_kept chip (SetBreak c.args.node c.args.address) c.self.invariant.legal))
    )

pub returns : goal.returns
returns c =
    let chip : Chip = record { parts = c.self.inside.parts.items; cells = c.self.inside.cells } in
    set_at chip c.args.node c.args.address c.index.result c.index_mut.result.now
    c.set_break.new.self c.self.invariant.legal.parts c.index.ensures.value c.index.ensures.bound
    c.index_mut.ensures.value c.set_break.ensures
    ∙ ap (λ z. happened z (SetBreak c.args.node c.args.address)) c.self.view_is
