use Rattle.std.proofs.Common.{sym, subst}
use Rattle.ga_chip.specs.Run.{tries_of}
use Rattle.ga_law_examples.specs.Pieces.{IsFed}
use Rattle.ga_law_examples.proofs.Fed.{fed_none}
use Rattle.ga_law_examples.proofs.pieces.worked.Goals as goal

pub returns-in-Ok : goal.returns-in-Ok
returns-in-Ok g c = λ name given fed.
    let run = c.in-Ok.ensures.run in
    let runs = c.runs.ensures in
    let none = runs.unfed c.args.chip run.tries name in
    subst (λ chip. IsFed chip name given) (sym run.leads)
    (fed_none runs.joined c.args.chip name given (tries_of run.tries) fed none)
