use Rattle.ga_programs.proofs.Listed.{fails_listed}
use Rattle.ga_programs.proofs.list.output.Goals as goal

pub returns-in_ok-shown_fault-in-Err-clause-output :
    goal.returns-in_ok-shown_fault-in-Err-clause-output
returns-in_ok-shown_fault-in-Err-clause-output c =
    fails_listed c.args.labels c.args.input.now c.in_ok-text.text.now c.in-Err.error
    c.in_ok-shown_fault-in-Err.field-0 c.in_ok-text.ensures c.in-Err.ensures.fault
    c.in_ok-shown_fault-in-Err.ensures
