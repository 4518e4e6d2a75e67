use Rattle.std.proofs.Common.{◌≡◌, inl, inr, [], ℕ, false, IfSome, List, Option, Some, None, Result, Ok, Err, rules}
use Rattle.std.proofs.lemmas.Bool.{true≢false}
use Rattle.ga_jobs.specs.{reads_input}
use Rattle.ga_jobs.specs.declared.Job.{Job}
use Rattle.ga_jobs.specs.declared.Job.TheVariants.{Explain}
use Rattle.ga_jobs.specs.declared.engine.Ending.{Ending}
use Rattle.ga_input.specs.declared.fault.ServeError.{ServeError}
use Rattle.ga_input.specs.declared.fault.ServeError.TheVariants.{Read, Write, Memory}
use Rattle.ga_jobs.specs.{IsJobOutput}
use Rattle.ga_jobs.specs.Answering.{IsOutput}
use Rattle.ga_jobs.specs.Engine.{Serves}
use Rattle.ga_jobs.proofs.engine.serve.Goals as goal

-- what a job answers that reads no input is the same for every input
any_input : (job : Job) (input other : List ℕ) (answer : Result (List ℕ) ServeError)
    → reads_input job ≡ false → IsOutput job input answer → IsOutput job other answer
unfolding IsJobOutput
any_input (Explain topic) input other answer reads is = is
any_input job input other answer reads is = absurd (true≢false reads)

serves_any : (job : Job) (input other : List ℕ) (old new : Option (List ℕ))
    (answer : Result Ending ServeError) → reads_input job ≡ false → Serves job input old new answer
    → Serves job other old new answer
serves_any job input other old new (Ok ended) reads is =
    (is.0, any_input job input other (Ok is.0) reads is.1, is.2, is.3)
serves_any job input other old new (Err Write) reads is =
    (is.0, any_input job input other (Ok is.0) reads is.1, is.2)
serves_any job input other old new (Err Read) reads is = is
serves_any job input other old new (Err Memory) reads (inl kept) = inl kept
serves_any job input other old new (Err Memory) reads (inr (pieces, part)) =
    inr (pieces, (part.0, any_input job input other (Ok part.0) reads part.1, part.2))
serves_any job input other old new (Err fault) reads is =
    (any_input job input other (Err fault) reads is.0, is.1)

where_known : (known : Option (List ℕ)) (P : List ℕ → Type 0) → ((input : List ℕ) → P input)
    → IfSome known P
where_known None P all = tt
where_known (Some input) P all = all input

pub returns-then-not-reads_input-clause-served : goal.returns-then-not-reads_input-clause-served
returns-then-not-reads_input-clause-served g c =
    let reads : reads_input c.args.job.now ≡ false = search rules in
    where_known _ _
    (λ input. serves_any c.args.job.now [] input _ _ _ reads c.respond.ensures.served)
