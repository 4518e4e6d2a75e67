use Rattle.ga_jobs.specs.Answering.{IsOutput}
use Rattle.ga_jobs.specs.Outputs.{text_of}
use Rattle.ga_jobs.proofs.FileAnswers.{expansion_answers, expansion_fails}
use Rattle.ga_jobs.proofs.larger.output_of_larger.Goals as goal

pub returns-in-Ok-clause-output : goal.returns-in-Ok-clause-output
returns-in-Ok-clause-output g c =
    expansion_answers (IsOutput c.args.job.now) c.args.input.now c.in_ok-text.made
    c.in_ok-text.ensures.made c.as_bytes.result.now c.as_bytes.ensures.value
    (text_of c.in-Ok.output) c.in-Ok.ensures.output

pub returns-clause-output : goal.returns-clause-output
returns-clause-output g c =
    expansion_fails (IsOutput c.args.job.now) c.args.input.now c.in_ok-text.made
    c.in_ok-text.ensures.made c.as_bytes.result.now c.in_ok-text.text.now
    c.as_bytes.ensures.value c.in_ok-text.ensures.text c.in-Err.fault
    c.in_ok-as_written-in-Err.field-0 c.in-Err.ensures.output c.in_ok-as_written-in-Err.ensures
