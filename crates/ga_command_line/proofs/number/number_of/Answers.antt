use Rattle.std.proofs.Common.{◌≡◌, ◌∙◌, Some, Result, Ok, Err}
use Rattle.std.specs.Prelude.{IfErr}
use Rattle.std.specs.Result.{IsErrAnd}
use Rattle.ga_command_line.specs.declared.command_line.LineError.{LineError}
use Rattle.ga_command_line.proofs.number.number_of.Goals as goal

-- what follows of the error of a result
error_then : {T : Type 0} (r : Result T LineError) (P Q : LineError → Type 0) → IsErrAnd r P
    → ((e : LineError) → P e → Q e) → IfErr r Q
error_then (Ok x) P Q h f = tt
error_then (Err e) P Q h f = f e h

pub returns-in_err-number-clause-right : goal.returns-in_err-number-clause-right
returns-in_err-number-clause-right c =
    error_then c.from_residual.result
    (λ error. error ≡ c.in_err-number.field-0.0) _ c.from_residual.ensures.1
    (λ error same number within at. same ∙ c.in_err-number.ensures.right (Some number) within at)
