use Rattle.ga_jobs.specs.Answering.{IsOutput}
use Rattle.ga_jobs.specs.Outputs.{text_of}
use Rattle.ga_jobs.proofs.FileAnswers.{larger_text, plain_fails, plain_text, refused}
use Rattle.ga_jobs.proofs.larger.output_of_file.Goals as goal

pub returns-in-Ok-clause-output : goal.returns-in-Ok-clause-output
returns-in-Ok-clause-output g c =
    plain_text (IsOutput c.args.job.now) c.args.input.now (text_of c.in-Ok.output)
    c.in-Ok.ensures.output

pub returns-in-Some-clause-output : goal.returns-in-Some-clause-output
returns-in-Some-clause-output g c =
    let Is = IsOutput c.args.job.now in
    larger_text Is c.args.input.now text_of c.output_of_larger.result
    (refused Is c.args.input.now c.in-Err.fault c.in-Some.field-0 c.in-Some.ensures
    c.in-Err.ensures.output)
    c.output_of_larger.ensures.output

pub returns-in-None-clause-output : goal.returns-in-None-clause-output
returns-in-None-clause-output g c =
    plain_fails (IsOutput c.args.job.now) c.args.input.now c.in-Err.fault c.in-None.ensures
    c.in-Err.ensures.output
