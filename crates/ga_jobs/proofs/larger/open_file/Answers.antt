use Rattle.ga_input.specs.Session.{IsSession}
use Rattle.ga_jobs.proofs.FileAnswers.{larger_text, plain_fails, plain_text, refused}
use Rattle.ga_jobs.proofs.larger.open_file.Goals as goal

pub returns-in-Ok : goal.returns-in-Ok
returns-in-Ok c =
    plain_text (IsSession c.args.loading.now) c.args.input.now c.in-Ok.live c.in-Ok.ensures

pub returns-in-Some : goal.returns-in-Some
returns-in-Some c =
    let Is = IsSession c.args.loading.now in
    larger_text Is c.args.input.now (λ live. live) c.open_larger.result
    (refused Is c.args.input.now c.in-Err.fault c.in-Some.field-0 c.in-Some.ensures
    c.in-Err.ensures)
    c.open_larger.ensures

pub returns-in-None : goal.returns-in-None
returns-in-None c =
    plain_fails (IsSession c.args.loading.now) c.args.input.now c.in-Err.fault c.in-None.ensures
    c.in-Err.ensures
