use Rattle.std.proofs.Common.{◌<◌, ◌∙◌, ap, rules, subst, sym}
use Rattle.std.proofs.lemmas.Bool.{false≢true}
use Rattle.ga_place.proofs.Cells.{is_node}
use Rattle.ga_place.specs.Node.{IsNodeName}
use Rattle.ga_place.specs.inner.Index.{index_back}
use Rattle.ga_chip.specs.inner.Port.{FitsPorts}
use Rattle.ga_chip.specs.inner.Within.{StepsBound}
use Rattle.ga_chip.proofs.Sharing.{fits_ports}
use Rattle.ga_chip.proofs.part.NodePart.with_reset_state.Goals as goal

pub invariant_of-result : goal.invariant_of-result
invariant_of-result c =
    let named : IsNodeName c.at.result = subst IsNodeName (sym c.at.ensures)
    (is_node _ (subst (λ i. i < 144) (sym (index_back c.args.index c.requires.index))
    c.requires.index)) in
    let bound : StepsBound c.args.state.steps c.new-2.result c.new-3.result = search rules in (
      bound,
      subst (λ name. FitsPorts name c.new-4.result)
          (c.at.ensures ∙ sym (ap (λ s. s.node) c.requires.state)) (subst
          (FitsPorts c.at.result) (sym c.new-4.ensures) (fits_ports c.at.result named)),
      λ opened. absurd (false≢true opened),
    )
