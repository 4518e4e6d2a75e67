use Rattle.std.proofs.Common.{ap₂, ◌∙◌, ◌++◌, ◌∷◌, [], subst, sym}
use Rattle.ga_place.specs.Cell.{name_at}
use Rattle.ga_chip.specs.Chip.{reset_part}
use Rattle.ga_chip.specs.Legal.{IsLegal}
use Rattle.ga_chip.proofs.Awake.{all_knows}
use Rattle.ga_chip.proofs.Reset.{all_nodes, reset_at, reset_legal}
use Rattle.ga_chip.proofs.Turns.{places_next}
use Rattle.ga_chip.proofs.chip.Chip.reset.Goals as goal

pub loop-index-preserved : goal.loop-index-preserved
loop-index-preserved c =
    c.in_ok-push.ensures.items
    ∙ ap₂ (λ l part. l ++ part ∷ []) c.loop-index.invariant c.reset_as.ensures
    ∙ places_next (λ index. reset_part (name_at index)) c.loop-index.index

pub invariant_of-result : goal.invariant_of-result
invariant_of-result c =
    all_knows _ c.all.result
    (subst IsLegal (sym (reset_at c.loop-index.parts.items c.new.result (all_nodes
    c.loop-index.parts.items c.loop-index.index c.loop-index.invariant c.loop-index-test.false
    c.loop-index.auto.index-end) (c.new.ensures ∙ c.in_ok-cells.ensures.items))) reset_legal)
    c.all.ensures

pub returns : goal.returns
returns c =
    reset_at c.loop-index.parts.items c.new.result (all_nodes c.loop-index.parts.items
    c.loop-index.index c.loop-index.invariant c.loop-index-test.false c.loop-index.auto.index-end)
    (c.new.ensures ∙ c.in_ok-cells.ensures.items)
