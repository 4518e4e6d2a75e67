use Rattle.std.proofs.Common.{◌∙◌, sym}
use Rattle.ga_source.proofs.Walking.{begins_blank, begins_last, no_token}
use Rattle.ga_source.proofs.token.first_run.Goals as goal

pub returns-in_err-first_non_blank-clause-none : goal.returns-in_err-first_non_blank-clause-none
returns-in_err-first_non_blank-clause-none c =
    λ e. no_token c.args.text.now (sym c.in_err-first_non_blank.ensures)

pub returns-in-Some-clause-some : goal.returns-in-Some-clause-some
returns-in-Some-clause-some c =
    begins_blank c.args.text.now c.split_at.result.1.now c.in_ok-first_non_blank.field-0
    (sym c.in_ok-first_non_blank.ensures) c.split_at.ensures.back c.in-Some.end
    c.split_at-in-Some.result.0.now c.split_at-in-Some.result.1.now
    (sym c.first_blank.ensures ∙ c.in-Some.is) c.split_at-in-Some.ensures.front
    c.split_at-in-Some.ensures.back

pub returns-in-None-clause-some : goal.returns-in-None-clause-some
returns-in-None-clause-some c =
    begins_last c.args.text.now c.split_at.result.1.now c.in_ok-first_non_blank.field-0
    (sym c.in_ok-first_non_blank.ensures) c.split_at.ensures.back c.split_at-in-None.result.0.now
    c.split_at-in-None.result.1.now
    (sym c.first_blank.ensures ∙ c.in-None.is) c.split_at-in-None.ensures.front
    c.split_at-in-None.ensures.back
