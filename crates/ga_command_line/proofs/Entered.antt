-- The subcommand that a parse met is the one that right words name.
use Rattle.std.proofs.Common.{◌≡◌, ◌∙◌, true, List, Global, Option, Some, None, Result, Ok, Err, ap, refl, subst}
use Rattle.std.specs.Prelude.{Box, IsSomeAnd, IfErr, option_map}
use Rattle.std.specs.Result.{IsErrAnd}
use Rattle.clap.specs.Words.{HasMatchesOf, App, Row, Text, app_of, is_simple, subcommand_rows, subcommand_name_of, subcommand_of, subcommand_rows_of}
use Rattle.clap.specs.declared.parser.matches.ArgMatches.{ArgMatches}
use Rattle.clap.specs.declared.parser.matches.ArgMatches.TheViews.{out-ArgMatches, out-SubCommand}
use Rattle.clap.specs.declared.parser.matches.SubCommand.{SubCommand}
use Rattle.std.specs.Box.{box_value}
use Rattle.clap.specs.declared.builder.command.Command.{Command}
use Rattle.ga_command_line.specs.inner.Command.{IsCommandOf}
use Rattle.ga_command_line.specs.CommandLine.{AsksFor, IsAskedFor, bench_command}
use Rattle.ga_command_line.specs.declared.command_line.LineError.{LineError}
use Rattle.ga_jobs.specs.declared.Job.{Job}
use Rattle.ga_command_line.proofs.Opened.{whole_command}

-- what is known of each error is known of the error of a result
pub each_error : {T : Type 0} (r : Result T LineError) (P Q : LineError → Type 0) → IsErrAnd r Q
    → ((e : LineError) → Q e → P e) → IfErr r P
each_error (Ok x) P Q h f = tt
each_error (Err e) P Q h f = f e h

-- the whole command is one of which clap's definitions give the matches
bench_command-is_simple : is_simple bench_command ≡ true
unfolding whole_command
bench_command-is_simple = refl

-- some name and some rows are those of the subcommand that was entered
same_entered : (met : Option (Text × List Row)) (name : Text) (rows : List Row)
    → ◌≡◌ {A = Option Text} (Some name) (option_map (λ p. p.0) met)
    → ◌≡◌ {A = Option (List Row)} (Some rows) (option_map (λ p. p.1) met) → (job : Job)
    → IsSomeAnd met (λ entered. AsksFor entered job) → AsksFor (name, rows) job
same_entered None name rows e f job asks = absurd asks
same_entered (Some entered) name rows e f job asks =
    let same_name : entered.0 ≡ name = cc in
    let same_rows : entered.1 ≡ rows = cc in
    subst (λ (n : Text). AsksFor (n, rows) job) same_name
    (subst (λ (rs : List Row). AsksFor (entered.0, rs) job) same_rows asks)

name_met : (m : ArgMatches) → subcommand_name_of m ≡ option_map (λ p. p.0) (subcommand_rows_of m)
name_met m = go (out-ArgMatches m).subcommand
  where
    go : (o : Option (Box SubCommand Global))
        → option_map (λ b. (out-SubCommand (box_value b)).name.now) o
        ≡ option_map (λ p. p.0) (subcommand_rows o)
    go None = refl
    go (Some b) = refl

-- the subcommand that a parse met is that of the whole command
pub met : (command : Command) (words : List Text) (m : ArgMatches)
    → IsCommandOf bench_command command → HasMatchesOf (app_of command) words m
    → subcommand_rows_of m ≡ subcommand_of bench_command words
met command words m is matches =
    let simple : is_simple (app_of command) ≡ true = ap is_simple is.0 ∙ bench_command-is_simple in
    (matches simple).1 ∙ ap (λ (app : App). subcommand_of app words) is.0

-- what is asked for is asked for by the name and the rows of the subcommand that the parse met
pub asked : (m : ArgMatches) (name : Text) (rows : List Row)
    → ◌≡◌ {A = Option Text} (Some name) (subcommand_name_of m)
    → ◌≡◌ {A = Option (List Row)} (Some rows) (option_map (λ p. p.1) (subcommand_rows_of m))
    → (job : Job) → IsAskedFor (subcommand_rows_of m) job → AsksFor (name, rows) job
asked m name rows e f job asks =
    same_entered (subcommand_rows_of m) name rows (e ∙ name_met m) f job asks
