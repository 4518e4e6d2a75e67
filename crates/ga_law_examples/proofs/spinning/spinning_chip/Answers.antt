use Rattle.std.proofs.Common.{◌∙◌, ◌≡◌, ◌∷◌, [], ap, arith, refl, subst, sym}
use Rattle.std.specs.Prelude.{IsOk}
use Rattle.ga_chip.specs.Chip.{answer_of}
use Rattle.ga_law_examples.proofs.SpinningChip.{all_spin, next_spins, none_spin, not_refused}
use Rattle.ga_law_examples.proofs.SpinningChip.{spinning_to}
use Rattle.ga_law_examples.proofs.spinning.spinning_chip.Goals as goal

pub loop-index-init : goal.loop-index-init
loop-index-init c = none_spin c.in_ok-chip.chip c.in_ok-chip.ensures

pub unwrap-requires : goal.unwrap-requires
unwrap-requires c =
    let free = not_refused c.loop-index.chip c.loop-index.index c.at.result c.loop-index-test.true
    c.loop-index.invariant c.at.ensures in
    subst IsOk (sym (c.place.ensures.refused ∙ ap answer_of free)) refl

pub loop-index-preserved : goal.loop-index-preserved
loop-index-preserved c =
    next_spins c.loop-index.chip c.place.new.self c.loop-index.index c.at.result _
    c.loop-index-test.true c.loop-index.invariant c.at.ensures
    (ap (λ word. word ∷ []) c.jump_000.ensures) c.place.ensures.chip

pub returns : goal.returns
returns c =
    let last : c.loop-index.index ≡ 144 = omega arith in
    all_spin c.loop-index.chip (c.loop-index.invariant ∙ ap spinning_to last)
