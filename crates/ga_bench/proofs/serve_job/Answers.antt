use Rattle.std.proofs.Common.{◌≡◌, ℕ, IfSome, List, Option, Some, None, Result}
use Rattle.ga_jobs.specs.declared.Job.{Job}
use Rattle.ga_jobs.specs.declared.engine.Ending.{Ending}
use Rattle.ga_input.specs.declared.fault.ServeError.{ServeError}
use Rattle.ga_jobs.specs.Engine.{Serves, status_of}
use Rattle.ga_bench.specs.Status.{HasServed}
use Rattle.ga_bench.proofs.serve_job.Goals as goal

serves : (known old new : Option (List ℕ)) (job : Job) (answer : Result Ending ServeError)
    (status : ℕ) → IfSome known (λ input. Serves job input old new answer)
    → status ≡ status_of answer → IfSome known (λ input. HasServed job input old new status)
serves None old new job answer status is same = tt
serves (Some input) old new job answer status is same = (answer, is, same)

pub returns-clause-served : goal.returns-clause-served
returns-clause-served g c = serves _ _ _ _ _ _ c.serve-outcome.ensures.served c.reported.ensures
