use Rattle.ga_input.specs.Session.{IsSession}
use Rattle.ga_jobs.proofs.FileAnswers.{expansion_answers, expansion_fails}
use Rattle.ga_jobs.proofs.larger.open_larger.Goals as goal

pub returns-in-Ok : goal.returns-in-Ok
returns-in-Ok c =
    expansion_answers (IsSession c.args.loading.now) c.args.input.now c.in_ok-text.made
    c.in_ok-text.ensures.made c.as_bytes.result.now c.as_bytes.ensures.value c.in-Ok.live
    c.in-Ok.ensures

pub returns : goal.returns
returns c =
    expansion_fails (IsSession c.args.loading.now) c.args.input.now c.in_ok-text.made
    c.in_ok-text.ensures.made c.as_bytes.result.now c.in_ok-text.text.now
    c.as_bytes.ensures.value c.in_ok-text.ensures.text c.in-Err.fault
    c.in_ok-as_written-in-Err.field-0 c.in-Err.ensures c.in_ok-as_written-in-Err.ensures
