use Rattle.std.proofs.Common.{◌≡◌, ◌∙◌, ◌≤◌, ℕ, List, None, Option, Some, Result, Ok, Err, IfErr, IfSome, ap, arith, codes, sym}
use Rattle.std.specs.Result.{IsErrAnd}
use Rattle.std.specs.Str.{bytes_eq}
use Rattle.std.proofs.lemmas.Bool.{false≢true}
use Rattle.clap.specs.Words.{Row, Text, found_of, rows_of}
use Rattle.ga_jobs.specs.declared.Job.{Job}
use Rattle.ga_jobs.specs.declared.Job.TheVariants as job
use Rattle.ga_input.specs.declared.loading.Loading.{Loading}
use Rattle.ga_input.specs.declared.loading.Loading.TheVariants.{Any}
use Rattle.ga_command_line.specs.declared.command_line.LineError.{LineError}
use Rattle.ga_command_line.specs.declared.command_line.LineError.TheVariants.{Memory}
use Rattle.ga_command_line.specs.CommandLine.{AsksFor, InRange}
use Rattle.ga_command_line.specs.Loading.{IsLoadingAt}
use Rattle.ga_command_line.specs.Number.{IsNumberIfAt}
use Rattle.ga_command_line.proofs.list.job_of.Goals as goal

-- what `list` asks for has a loading, and a number of turns or none
list_has : (rows : List Row) (error : LineError)
    → ((loading : Loading) (turns : Option ℕ) → IfSome turns (λ number. number ≤ 1000000)
    → IsLoadingAt rows loading → IsNumberIfAt (codes "N") rows turns → error ≡ Memory)
    → (asked : Job) → AsksFor (codes "list", rows) asked → InRange asked → error ≡ Memory
list_has rows error right = λ asked.
    elim asked as (λ job. AsksFor (codes "list", rows) job → InRange job → error ≡ Memory) [
      | job.List labels file ↦ λ asks within. right Any None tt asks.1.2 asks.1.3
      | job.Counts loading turns file ↦
          λ asks within. right loading turns within asks.1.2 asks.1.3
      | _ ↦ λ asks within. absurd
          (false≢true (ap (λ (text : Text). bytes_eq text (codes "list")) (sym asks.0)))
    ]

handed_on : (rows : List Row) (result : Result Job LineError) (error : LineError)
    → IsErrAnd result (λ e. e ≡ error)
    → ((loading : Loading) (turns : Option ℕ) → IfSome turns (λ number. number ≤ 1000000)
    → IsLoadingAt rows loading → IsNumberIfAt (codes "N") rows turns → error ≡ Memory)
    → IfErr result (λ e. (job : Job) → AsksFor (codes "list", rows) job → InRange job → e ≡ Memory)
handed_on rows (Ok job) error is right = tt
handed_on rows (Err e) error is right =
    λ asked asks within. is ∙ list_has rows error right asked asks within

in_range : (turns : Option ℕ) → IfSome turns (λ number. number ≤ 1000000)
    → IfSome turns (λ number. (0 ≤ number) × (number ≤ 1000000))
in_range None within = tt
in_range (Some number) within = (omega arith, within)

pub returns-in_err-loading-clause-right : goal.returns-in_err-loading-clause-right
returns-in_err-loading-clause-right c =
    handed_on (rows_of (found_of c.args.found.now)) c.from_residual.result
    c.in_err-loading.field-0.0 c.from_residual.ensures.1
    (λ loading turns within loads number. c.in_err-loading.ensures.right loading loads)

pub returns-in_err-turns-clause-right : goal.returns-in_err-turns-clause-right
returns-in_err-turns-clause-right c =
    handed_on (rows_of (found_of c.args.found.now)) c.from_residual-in_err-turns.result
    c.in_err-turns.field-0.0 c.from_residual-in_err-turns.ensures.1
    (λ loading turns within loads number. c.in_err-turns.ensures.right turns
    (in_range turns within) number)
