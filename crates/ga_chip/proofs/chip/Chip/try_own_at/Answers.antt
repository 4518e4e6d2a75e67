use Rattle.ga_place.specs.inner.Index.{index_back}
use Rattle.std.specs.Prelude.{if◌then◌else◌}
use Rattle.std.proofs.Common.{ap, ◌∙◌, None, subst, sym}
use Rattle.ga_place.specs.Cell.{name_at}
use Rattle.ga_place.specs.declared.side.Side.TheVariants.{Right}
use Rattle.ga_chip.specs.Chip.{tried}
use Rattle.ga_chip.specs.Legal.{IsLegal}
use Rattle.ga_chip.specs.Part.{stepped}
use Rattle.ga_chip.proofs.Awake.{own_knows}
use Rattle.ga_chip.proofs.Tries.{legal_tried, own_at}
use Rattle.ga_chip.proofs.chip.Chip.try_own_at.Goals as goal

pub invariant_of-self : goal.invariant_of-self
invariant_of-self c = (
    (own_knows (record { parts = c.self.inside.parts.items; cells = c.self.inside.cells })
    c.self.inside.awake c.args.index c.try_own.new.self c.self.invariant c.requires
    (λ side. sym (ap (λ r. r.0)
    (own_at (record { parts = c.self.inside.parts.items; cells = c.self.inside.cells }) (name_at
    c.args.index) c.args.index side c.index_mut.result.now c.try_own.new.self c.self.invariant.legal
    (sym (index_back c.args.index c.requires)) c.requires c.index_mut.ensures.value
    (c.try_own.ensures.asks c.if-try_own.true side) (c.try_own.ensures.step ∙ ap (λ b. if b
    then stepped None c.index_mut.result.now else c.index_mut.result.now) c.if-try_own.true))))
    (subst (λ r. IsLegal r.1) (sym (own_at (record
    { parts = c.self.inside.parts.items; cells = c.self.inside.cells }) (name_at c.args.index)
    c.args.index Right c.index_mut.result.now c.try_own.new.self c.self.invariant.legal
    (sym (index_back c.args.index c.requires)) c.requires c.index_mut.ensures.value
    (c.try_own.ensures.asks c.if-try_own.true Right) (c.try_own.ensures.step ∙ ap (λ b. if b
    then stepped None c.index_mut.result.now else c.index_mut.result.now) c.if-try_own.true)))
    (legal_tried (record { parts = c.self.inside.parts.items; cells = c.self.inside.cells })
    (name_at c.args.index) Right c.self.invariant.legal)))
    )

pub returns-then-try_own-clause-moved : goal.returns-then-try_own-clause-moved
returns-then-try_own-clause-moved c = λ _ side.
    (own_at (record { parts = c.self.inside.parts.items; cells = c.self.inside.cells }) (name_at
    c.args.index) c.args.index side c.index_mut.result.now c.try_own.new.self c.self.invariant.legal
    (sym (index_back c.args.index c.requires)) c.requires c.index_mut.ensures.value
    (c.try_own.ensures.asks c.if-try_own.true side) (c.try_own.ensures.step ∙ ap (λ b. if b
    then stepped None c.index_mut.result.now else c.index_mut.result.now) c.if-try_own.true))
    ∙ ap (λ z. tried z (name_at c.args.index) side) c.self.view_is
