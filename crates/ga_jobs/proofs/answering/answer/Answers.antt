use Rattle.std.proofs.Common.{rules, string_bytes, subst, sym}
use Rattle.ga_input.specs.Fault.{Answers}
use Rattle.ga_programs.specs.Run.{IsRunOutput}
use Rattle.ga_jobs.specs.{IsJobOutput}
use Rattle.ga_jobs.proofs.Limit.{within}
use Rattle.ga_jobs.proofs.answering.answer.Goals as goal

pub returns-in_ok-within_limit-in-Run-clause-answer :
    goal.returns-in_ok-within_limit-in-Run-clause-answer
unfolding IsJobOutput
returns-in_ok-within_limit-in-Run-clause-answer g c =
    let run = c.in-Run in
    within string_bytes c.args.job.now c.args.input.now tt
    c.in_ok-within_limit-in-Run.field-0 c.output.result (search rules)
    (subst
    (λ job. Answers string_bytes (IsJobOutput job c.args.input.now) c.output.result) (sym run.is)
    (subst (λ route. Answers string_bytes (IsRunOutput route run.workers run.turns c.args.input.now)
    c.output.result) c.deref.ensures c.output.ensures.output))
