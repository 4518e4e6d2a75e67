use Rattle.std.proofs.Common.{◌≡◌, ◌∙◌, List, Result, Ok, Err, IfErr, ap, codes, sym}
use Rattle.std.specs.Result.{IsErrAnd}
use Rattle.std.specs.Str.{bytes_eq}
use Rattle.std.proofs.lemmas.Bool.{false≢true}
use Rattle.clap.specs.Words.{Row, Text, found_of, rows_of}
use Rattle.ga_jobs.specs.declared.Job.{Job}
use Rattle.ga_jobs.specs.declared.Job.TheVariants.{Debug, Talk}
use Rattle.ga_input.specs.declared.loading.Loading.{Loading}
use Rattle.ga_input.specs.declared.loading.Loading.TheVariants.{Any}
use Rattle.ga_command_line.specs.declared.command_line.LineError.{LineError}
use Rattle.ga_command_line.specs.declared.command_line.LineError.TheVariants.{Memory}
use Rattle.ga_command_line.specs.CommandLine.{AsksFor}
use Rattle.ga_command_line.specs.Loading.{IsLoadingAt}
use Rattle.ga_command_line.proofs.debug.job_of.Goals as goal

-- what `debug` asks for has a loading
debug_loads : (rows : List Row) (error : LineError)
    → ((loading : Loading) → IsLoadingAt rows loading → error ≡ Memory) → (asked : Job)
    → AsksFor (codes "debug", rows) asked → error ≡ Memory
debug_loads rows error right = λ asked.
    elim asked as (λ job. AsksFor (codes "debug", rows) job → error ≡ Memory) [
      | Debug ↦ λ asks. right Any asks.1.0
      | Talk loading file any ↦ λ asks. right loading asks.1.0
      | _ ↦ λ asks. absurd
          (false≢true (ap (λ (text : Text). bytes_eq text (codes "debug")) (sym asks.0)))
    ]

handed_on : (rows : List Row) (result : Result Job LineError) (error : LineError)
    → IsErrAnd result (λ e. e ≡ error)
    → ((loading : Loading) → IsLoadingAt rows loading → error ≡ Memory)
    → IfErr result (λ e. (job : Job) → AsksFor (codes "debug", rows) job → e ≡ Memory)
handed_on rows (Ok job) error is right = tt
handed_on rows (Err e) error is right = λ asked asks. is ∙ debug_loads rows error right asked asks

pub returns-in_err-loading-clause-right : goal.returns-in_err-loading-clause-right
returns-in_err-loading-clause-right c =
    handed_on (rows_of (found_of c.args.found.now)) c.from_residual.result
    c.in_err-loading.field-0.0 c.from_residual.ensures.1 c.in_err-loading.ensures.right
