use Rattle.std.proofs.Common.{rules, subst, sym}
use Rattle.ga_input.specs.Fault.{Answers}
use Rattle.ga_jobs.specs.Outputs.{text_of}
use Rattle.ga_jobs.specs.{IsJobOutput}
use Rattle.ga_jobs.proofs.Limit.{within}
use Rattle.ga_jobs.proofs.outputs.output_of.Goals as goal

pub returns-in_ok-within_limit-in-Trace-clause-output :
    goal.returns-in_ok-within_limit-in-Trace-clause-output
unfolding IsJobOutput
returns-in_ok-within_limit-in-Trace-clause-output g c =
    within text_of c.args.job.now c.args.input.now tt
    c.in_ok-within_limit-in-Trace.field-0 c.waveform_of.result (search rules)
    (subst (λ job. Answers text_of (IsJobOutput job c.args.input.now) c.waveform_of.result)
    (sym c.in-Trace.is) c.waveform_of.ensures)
