use Rattle.std.proofs.Common.{ap, ◌∙◌, false, true, subst, sym}
use Rattle.ga_place.specs.declared.side.Side.TheVariants.{Right}
use Rattle.ga_chip.specs.inner.Awake.{Knows}
use Rattle.ga_chip.specs.Chip.{Chip, answer_of, tried, unless_held}
use Rattle.ga_chip.specs.Legal.{IsLegal}
use Rattle.ga_chip.specs.Run.{PassBreak, happened}
use Rattle.ga_chip.proofs.Awake.{placed_knows}
use Rattle.ga_chip.proofs.Kept.{legal_kept}
use Rattle.ga_chip.proofs.Uses.{back_same, pass_kept, passed_at, refused_by}
use Rattle.ga_chip.proofs.chip.Chip.pass_break.Goals as goal

pub returns-then-not-pass_break-clause-refused : goal.returns-then-not-pass_break-clause-refused
returns-then-not-pass_break-clause-refused c = λ side.
    let chip : Chip = record { parts = c.self.inside.parts.items; cells = c.self.inside.cells } in
    refused_by chip c.args.node c.index-index.result c.index_mut.result.now false side
    c.self.invariant.legal.parts c.index-index.ensures.value c.index-index.ensures.bound
    c.index_mut.ensures.value (sym c.if-not-pass_break.true ∙ c.pass_break.ensures.held side)
    ∙ ap (λ z. answer_of (unless_held (tried z c.args.node side).0)) c.self.view_is

pub invariant_of-self : goal.invariant_of-self
invariant_of-self c =
    let chip : Chip = record { parts = c.self.inside.parts.items; cells = c.self.inside.cells } in (
    subst (λ z. Knows z c.self.inside.awake) (sym (back_same chip c.args.node c.index-index.result
    c.index_mut.result.now c.pass_break.new.self c.self.invariant.legal.parts
    c.index-index.ensures.value c.index-index.ensures.bound c.index_mut.ensures.value
    (c.pass_break.ensures.part ∙ sym (pass_kept c.index_mut.result.now
    (sym (c.pass_break.ensures.held Right) ∙ c.if-not-pass_break.true))))) c.self.invariant
    )

pub returns-then-not-pass_break-clause-chip : goal.returns-then-not-pass_break-clause-chip
returns-then-not-pass_break-clause-chip c =
    let chip : Chip = record { parts = c.self.inside.parts.items; cells = c.self.inside.cells } in
    passed_at chip c.args.node c.index-index.result c.index_mut.result.now c.pass_break.new.self
    c.self.invariant.legal.parts c.index-index.ensures.value c.index-index.ensures.bound
    c.index_mut.ensures.value c.pass_break.ensures.part
    ∙ ap (λ z. happened z (PassBreak c.args.node)) c.self.view_is

pub returns-then-not-pass_break-clause-same : goal.returns-then-not-pass_break-clause-same
returns-then-not-pass_break-clause-same c = λ refused.
    let chip : Chip = record { parts = c.self.inside.parts.items; cells = c.self.inside.cells } in
    back_same chip c.args.node c.index-index.result c.index_mut.result.now c.pass_break.new.self
    c.self.invariant.legal.parts c.index-index.ensures.value c.index-index.ensures.bound
    c.index_mut.ensures.value (c.pass_break.ensures.part ∙ sym (pass_kept c.index_mut.result.now
    (sym (c.pass_break.ensures.held Right) ∙ c.if-not-pass_break.true)))
    ∙ c.self.view_is

pub invariant_of-self-2 : goal.invariant_of-self-2
invariant_of-self-2 c =
    let chip : Chip = record { parts = c.self.inside.parts.items; cells = c.self.inside.cells } in (
    placed_knows chip c.self.inside.awake c.insert.new.self c.index-index.result
    c.pass_break.new.self c.self.invariant c.insert.ensures
    (subst IsLegal (sym (passed_at chip c.args.node c.index-index.result c.index_mut.result.now
    c.pass_break.new.self c.self.invariant.legal.parts c.index-index.ensures.value
    c.index-index.ensures.bound c.index_mut.ensures.value c.pass_break.ensures.part))
    (legal_kept chip (PassBreak c.args.node) c.self.invariant.legal))
    )

pub returns-clause-refused : goal.returns-clause-refused
returns-clause-refused c = λ side.
    let chip : Chip = record { parts = c.self.inside.parts.items; cells = c.self.inside.cells } in
    refused_by chip c.args.node c.index-index.result c.index_mut.result.now true side
    c.self.invariant.legal.parts c.index-index.ensures.value c.index-index.ensures.bound
    c.index_mut.ensures.value (sym c.if-not-pass_break.false ∙ c.pass_break.ensures.held side)
    ∙ ap (λ z. answer_of (unless_held (tried z c.args.node side).0)) c.self.view_is

pub returns-clause-chip : goal.returns-clause-chip
returns-clause-chip c =
    let chip : Chip = record { parts = c.self.inside.parts.items; cells = c.self.inside.cells } in
    passed_at chip c.args.node c.index-index.result c.index_mut.result.now c.pass_break.new.self
    c.self.invariant.legal.parts c.index-index.ensures.value c.index-index.ensures.bound
    c.index_mut.ensures.value c.pass_break.ensures.part
    ∙ ap (λ z. happened z (PassBreak c.args.node)) c.self.view_is
