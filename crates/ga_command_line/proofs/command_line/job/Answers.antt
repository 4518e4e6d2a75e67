use Rattle.std.proofs.Common.{◌≡◌, ◌∙◌, List, Option, map, ap, subst, sym, Result, Ok, Err}
use Rattle.std.specs.Prelude.{IfOk, IfErr}
use Rattle.clap.specs.Words.{App, Row, Text, kind_of, subcommand_of, takes}
use Rattle.clap.specs.declared.error.kind.ErrorKind.TheVariants.{OutOfMemory}
use Rattle.ga_command_line.specs.CommandLine.{InRange, IsAskedFor, IsRight, bench_command}
use Rattle.ga_command_line.specs.declared.command_line.LineError.{LineError}
use Rattle.ga_command_line.specs.declared.command_line.LineError.TheVariants.{Memory}
use Rattle.ga_jobs.specs.declared.Job.{Job}
use Rattle.ga_command_line.proofs.Entered.{each_error, met}
use Rattle.ga_command_line.proofs.command_line.job.Goals as goal

pub returns-in_err-matches-clause-right : goal.returns-in_err-matches-clause-right
returns-in_err-matches-clause-right c =
    let words = map (λ word. word.now) c.args.words.now in
    each_error c.from_residual-in_err-matches.result _
    (λ fault. kind_of c.in_err-matches.field-0.0 ≡ OutOfMemory
    → fault ≡ Memory) c.from_residual-in_err-matches.ensures.1 (λ error gives job right.
    gives (c.in_err-matches.ensures.passes
    (ap (λ (app : App). takes app words) c.in_ok-command.ensures.0 ∙ right.0)))

pub returns-clause-named : goal.returns-clause-named
returns-clause-named c =
    let words = map (λ word. word.now) c.args.words.now in
    subst (λ (entered : Option (Text × List Row)). IfOk c.job_in.result (IsAskedFor entered))
    (met c.in_ok-command.field-0 words c.in_ok-matches.matches c.in_ok-command.ensures
    c.in_ok-matches.ensures.matches) c.job_in.ensures.named

-- what right words ask for is asked for by the subcommand that the parse met
right_by : (r : Result Job LineError) (words : List Text) (entered : Option (Text × List Row))
    → entered ≡ subcommand_of bench_command words
    → IfErr r (λ error. (job : Job) → IsAskedFor entered job → InRange job → error ≡ Memory)
    → IfErr r (λ error. (job : Job) → IsRight words job → error ≡ Memory)
right_by (Ok job) words entered same refused = tt
right_by (Err error) words entered same refused =
    λ job right. refused job
    (subst (λ (e : Option (Text × List Row)). IsAskedFor e job) (sym same) right.1) right.2

pub returns-clause-right : goal.returns-clause-right
returns-clause-right c =
    let words = map (λ word. word.now) c.args.words.now in
    right_by c.job_in.result words _ (met c.in_ok-command.field-0 words c.in_ok-matches.matches
    c.in_ok-command.ensures c.in_ok-matches.ensures.matches) c.job_in.ensures.right
