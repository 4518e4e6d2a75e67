use Rattle.std.proofs.Common.{◌∙◌, [], ◌∷◌, refl, sym, ap, subst}
use Rattle.ga_chip.specs.Run.{ClearBreak, PassBreak, happened}
use Rattle.ga_law_examples.specs.Pieces.{IsFed}
use Rattle.ga_law_examples.proofs.Fed.{fed_none}
use Rattle.ga_law_examples.proofs.pieces.released.Goals as goal

pub returns : goal.returns
returns c = λ name given fed.
    let clear = ClearBreak c.args.held 0x1D5 in
    let events = PassBreak c.args.held ∷ clear ∷ [] in
    let passed = c.pass_break-passed.ensures.chip in
    let leads = c.clear_break.ensures ∙ ap (λ chip. happened chip clear) passed in
    subst (λ chip. IsFed chip name given) (sym leads)
    (fed_none c.runs.ensures.joined c.args.chip name given events fed refl)
