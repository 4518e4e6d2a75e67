use Rattle.std.proofs.Common.{ap, ◌∙◌, subst, sym}
use Rattle.ga_chip.specs.Chip.{Chip}
use Rattle.ga_chip.specs.Legal.{IsLegal}
use Rattle.ga_chip.specs.Run.{ClearBreak, happened}
use Rattle.ga_chip.proofs.Awake.{placed_knows}
use Rattle.ga_chip.proofs.Kept.{legal_kept}
use Rattle.ga_chip.proofs.Uses.{cleared_at}
use Rattle.ga_chip.proofs.chip.Chip.clear_break.Goals as goal

pub invariant_of-self : goal.invariant_of-self
invariant_of-self c =
    let chip : Chip = record { parts = c.self.inside.parts.items; cells = c.self.inside.cells } in (
    placed_knows chip c.self.inside.awake c.insert.new.self c.index-index.result
    c.clear_break.new.self c.self.invariant c.insert.ensures
    (subst IsLegal
    (sym (cleared_at chip c.args.node c.args.address c.index-index.result c.index_mut.result.now
    c.clear_break.new.self c.self.invariant.legal.parts c.index-index.ensures.value
    c.index-index.ensures.bound c.index_mut.ensures.value c.clear_break.ensures))
    (legal_kept chip (ClearBreak c.args.node c.args.address) c.self.invariant.legal))
    )

pub returns : goal.returns
returns c =
    let chip : Chip = record { parts = c.self.inside.parts.items; cells = c.self.inside.cells } in
    cleared_at chip c.args.node c.args.address c.index-index.result c.index_mut.result.now
    c.clear_break.new.self c.self.invariant.legal.parts c.index-index.ensures.value
    c.index-index.ensures.bound c.index_mut.ensures.value c.clear_break.ensures
    ∙ ap (λ z. happened z (ClearBreak c.args.node c.args.address)) c.self.view_is
