-- An input that wasn't refused is not too long.
use Rattle.std.proofs.Common.{◌≡◌, Bool, true, false, List, ℕ, Result, Ok, Err, refl, subst, sym}
use Rattle.std.specs.Prelude.{MatchBool, if◌then◌else◌}
use Rattle.ga_input.specs.Fault.{Answers}
use Rattle.ga_jobs.specs.declared.Job.{Job}
use Rattle.ga_input.specs.declared.fault.ServeError.{ServeError}
use Rattle.ga_input.specs.declared.fault.ServeError.TheVariants.{Input}
use Rattle.ga_input.specs.declared.fault.InputFault.TheVariants.{TooLong}
use Rattle.ga_jobs.specs.{IsJobOutput}
use Rattle.ga_jobs.specs.Answering.{IsOutput, is_too_long}

not_refused : {Done : Type 0} (b : Bool) (done other : Done)
    → (if b then Err (Input TooLong) else Ok done) ≡ Ok other → b ≡ false
not_refused true done other e = absurd cc
not_refused false done other e = refl

-- so an answer of its job is an answer to the input
pub within : {A Done : Type 0} (view : A → List ℕ) (job : Job) (input : List ℕ)
    (done other : Done) (result : Result A ServeError)
    → (if is_too_long job input then Err (Input TooLong) else Ok done) ≡ Ok other
    → Answers view (IsJobOutput job input) result → Answers view (IsOutput job input) result
within view job input done other result passed is =
    subst (λ (b : Bool). Answers view (λ answer. MatchBool b (answer ≡ Err (Input TooLong))
    (IsJobOutput job input answer)) result)
    (sym (not_refused (is_too_long job input) done other passed)) is
