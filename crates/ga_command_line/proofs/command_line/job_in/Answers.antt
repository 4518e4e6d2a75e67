use Rattle.std.proofs.Common.{List, Result, Ok, Err}
use Rattle.std.specs.Prelude.{IfErr}
use Rattle.clap.specs.Words.{Row, Text, found_of, rows_of, subcommand_rows_of}
use Rattle.clap.specs.declared.parser.matches.ArgMatches.{ArgMatches}
use Rattle.std.proofs.Common.{◌≡◌}
use Rattle.ga_command_line.specs.declared.command_line.LineError.{LineError}
use Rattle.ga_command_line.specs.declared.command_line.LineError.TheVariants.{Memory}
use Rattle.ga_jobs.specs.declared.Job.{Job}
use Rattle.ga_command_line.specs.CommandLine.{AsksFor, InRange, IsAskedFor}
use Rattle.ga_command_line.proofs.Entered.{asked}
use Rattle.ga_command_line.proofs.command_line.job_in.Goals as goal

-- what right words ask for is asked for by the name and the rows that were found
right_by : (r : Result Job LineError) (m : ArgMatches) (name : Text) (rows : List Row)
    → ((job : Job) → IsAskedFor (subcommand_rows_of m) job → AsksFor (name, rows) job)
    → IfErr r (λ error. (job : Job) → AsksFor (name, rows) job → InRange job → error ≡ Memory)
    → IfErr r
    (λ error. (job : Job) → IsAskedFor (subcommand_rows_of m) job → InRange job → error ≡ Memory)
right_by (Ok job) m name rows named refused = tt
right_by (Err error) m name rows named refused = λ job asks. refused job (named job asks)

pub returns-in-Some-clause-right : goal.returns-in-Some-clause-right
returns-in-Some-clause-right c =
    let met = c.in-Some in
    let rows = rows_of (found_of met.found.now) in
    right_by c.job_named.result c.args.matches.now met.name.now rows (asked c.args.matches.now
    met.name.now rows met.ensures.name met.ensures.rows) c.job_named.ensures.right
