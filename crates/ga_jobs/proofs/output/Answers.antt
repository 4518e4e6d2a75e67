use Rattle.std.proofs.Common.{string_bytes, subst, sym}
use Rattle.ga_programs.specs.Boot.{IsBootOutput}
use Rattle.ga_input.specs.Fault.{Answers}
use Rattle.ga_jobs.specs.{IsJobOutput}
use Rattle.ga_jobs.proofs.output.Goals as goal

pub returns-in-Boot-clause-answer : goal.returns-in-Boot-clause-answer
unfolding IsJobOutput
returns-in-Boot-clause-answer c =
    let boot = c.in-Boot in
    subst (λ job. Answers string_bytes (IsJobOutput job c.args.input.now) c.output-in-Boot.result)
    (sym boot.is)
    (subst (λ route. Answers string_bytes (IsBootOutput route c.args.input.now)
    c.output-in-Boot.result) c.deref.ensures c.output-in-Boot.ensures.output)

pub returns-in-Race-clause-answer : goal.returns-in-Race-clause-answer
unfolding IsJobOutput
returns-in-Race-clause-answer c =
    subst (λ job. Answers string_bytes (IsJobOutput job c.args.input.now) c.output-in-Race.result)
    (sym c.in-Race.is) c.output-in-Race.ensures

pub returns-in-Talk-clause-answer : goal.returns-in-Talk-clause-answer
unfolding IsJobOutput
returns-in-Talk-clause-answer c =
    subst (λ job. Answers string_bytes (IsJobOutput job c.args.input.now) c.output-in-Talk.result)
    (sym c.in-Talk.is) c.output-in-Talk.ensures

pub returns-in-Map-clause-answer : goal.returns-in-Map-clause-answer
unfolding IsJobOutput
returns-in-Map-clause-answer c =
    subst (λ job. Answers string_bytes (IsJobOutput job c.args.input.now) c.output-in-Map.result)
    (sym c.in-Map.is) c.output-in-Map.ensures

pub returns-in-Profile-clause-answer : goal.returns-in-Profile-clause-answer
unfolding IsJobOutput
returns-in-Profile-clause-answer c =
    subst (λ job. Answers string_bytes (IsJobOutput job c.args.input.now)
    c.output-in-Profile.result) (sym c.in-Profile.is) c.output-in-Profile.ensures

pub returns-in-Trace-clause-answer : goal.returns-in-Trace-clause-answer
unfolding IsJobOutput
returns-in-Trace-clause-answer c =
    subst (λ job. Answers string_bytes (IsJobOutput job c.args.input.now) c.output-in-Trace.result)
    (sym c.in-Trace.is) c.output-in-Trace.ensures

pub returns-in-Counts-clause-answer : goal.returns-in-Counts-clause-answer
unfolding IsJobOutput
returns-in-Counts-clause-answer c =
    subst (λ job. Answers string_bytes (IsJobOutput job c.args.input.now)
    c.output-in-Counts.result) (sym c.in-Counts.is) c.output-in-Counts.ensures

pub returns-in-Report-clause-answer : goal.returns-in-Report-clause-answer
unfolding IsJobOutput
returns-in-Report-clause-answer c =
    subst (λ job. Answers string_bytes (IsJobOutput job c.args.input.now)
    c.output-in-Report.result) (sym c.in-Report.is) c.output-in-Report.ensures

pub returns-in-Lint-clause-answer : goal.returns-in-Lint-clause-answer
unfolding IsJobOutput
returns-in-Lint-clause-answer c =
    subst (λ job. Answers string_bytes (IsJobOutput job c.args.input.now) c.output-in-Lint.result)
    (sym c.in-Lint.is) c.output-in-Lint.ensures
