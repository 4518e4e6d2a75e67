use Rattle.std.proofs.Common.{◌≡◌, ap, ◌∙◌, subst, sym}
use Rattle.std.specs.Prelude.{◌↔◌}
use Rattle.ga_chip.specs.Chip.{IsHeld, tried}
use Rattle.ga_chip.specs.declared.outcome.Outcome.TheVariants.{Held}
use Rattle.ga_chip.proofs.Holds.{exactly}
use Rattle.ga_chip.proofs.Tries.{tried_still}
use Rattle.ga_chip.proofs.chip.Chip.attempt.Goals as goal

pub returns-clause-held : goal.returns-clause-held
returns-clause-held c =
    subst (λ o. (o ≡ Held) ↔ IsHeld c.args.self.now c.args.what.node)
    (sym (ap (λ r. r.0) c.attempt_at.ensures
    ∙ ap (λ name. (tried c.args.self.now name c.args.what.side).0) c.index.ensures.back))
    (exactly c.args.self.now c.args.what.node c.args.what.side)

pub returns-clause-unchanged : goal.returns-clause-unchanged
returns-clause-unchanged c still =
    let is = c.attempt_at.ensures
    ∙ ap (λ name. tried c.args.self.now name c.args.what.side) c.index.ensures.back in
    ap (λ r. r.1) is ∙ tried_still c.args.self.now c.args.what.node c.args.what.side
    (λ moves. still (ap (λ r. r.0) is ∙ moves))
