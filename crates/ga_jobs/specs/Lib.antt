-- The jobs: what each reads, and what it may answer to an input, by the page of its name.
use Rattle.std.specs.Prelude.{◌≡◌, Bool, true, false, List, [], ◌∷◌, ℕ, String, codes, Option, Some, None, Result, Ok, length, map, nat_lt, option_map, string_bytes, if◌then◌else◌}
use Rattle.std.specs.Option.{option_and_then}
use Rattle.std.specs.Str.{bytes_eq}
use Rattle.ga_explain.specs.Output.{explain_output}
use Rattle.ga_jobs.specs.declared.Job.{Job}
use Rattle.ga_jobs.specs.declared.Job.TheVariants as job
use Rattle.ga_input.specs.declared.fault.ServeError.{ServeError}
use Rattle.ga_programs.specs.Asm.{IsAsmOutput}
use Rattle.ga_programs.specs.Boot.{IsBootOutput}
use Rattle.ga_views.specs.CountsJob.{IsCountsOutput}
use Rattle.ga_replays.specs.Debug.{IsDebugOutput}
use Rattle.ga_programs.specs.Dis.{dis_output}
use Rattle.ga_programs.specs.ExpandJob.{IsExpandOutput}
use Rattle.ga_diagnostics.specs.Lines.{origins_in}
use Rattle.ga_diagnostics.specs.LintJob.{IsLintOutput, file_name, form_of}
use Rattle.ga_programs.specs.Listing.{IsListOutput}
use Rattle.ga_views.specs.MapJob.{IsMapOutput}
use Rattle.ga_programs.specs.One.{one_output}
use Rattle.ga_views.specs.ProfileJob.{IsProfileOutput}
use Rattle.ga_views.specs.Race.{IsRaceOutput}
use Rattle.ga_replays.specs.Replay.{IsReplayOutput}
use Rattle.ga_views.specs.ReportJob.{IsReportOutput}
use Rattle.ga_programs.specs.Run.{IsRunOutput}
use Rattle.ga_input.specs.Session.{IsSessionOutput}
use Rattle.ga_views.specs.TraceJob.{IsTraceOutput}
use Rattle.ga_replays.specs.Transcript.{IsCheckOutput, IsRecordOutput}
pub mod Answering
pub mod Outputs
pub mod Engine

-- what a job may answer to an input that is not too long
unfoldable pub IsJobOutput : Job → List ℕ → Result (List ℕ) ServeError → Type 0
IsJobOutput (job.One tries file) input answer = answer ≡ one_output tries input
IsJobOutput (job.Asm file) input answer = IsAsmOutput input answer
IsJobOutput (job.Dis code file) input answer = answer ≡ dis_output code input
IsJobOutput (job.Boot route file) input answer = IsBootOutput (string_bytes route) input answer
IsJobOutput (job.Run route workers turns file) input answer =
    IsRunOutput (string_bytes route) workers turns input answer
IsJobOutput job.Debug input answer = IsDebugOutput input answer
IsJobOutput (job.Talk loading file any) input answer = IsSessionOutput loading input answer
IsJobOutput (job.Replay file) input answer = IsReplayOutput input answer
IsJobOutput (job.Expand file) input answer = IsExpandOutput input answer
IsJobOutput (job.List labels file) input answer = IsListOutput labels input answer
IsJobOutput (job.Lint deny json file) input answer =
    IsLintOutput (origins_in (file_name (option_map string_bytes file))) (form_of json) input
    answer
IsJobOutput (job.Check files any) input answer = IsCheckOutput input answer
IsJobOutput (job.Record file any) input answer = IsRecordOutput input answer
IsJobOutput (job.Rewrite files any) input answer = IsRecordOutput input answer
IsJobOutput (job.Race loading turns witness file) input answer =
    IsRaceOutput loading turns witness input answer
IsJobOutput (job.Map loading turns file) input answer = IsMapOutput loading turns input answer
IsJobOutput (job.Profile loading start json turns file) input answer =
    IsProfileOutput loading start json turns input answer
IsJobOutput (job.Trace loading turns nodes save file) input answer =
    IsTraceOutput loading turns (option_map string_bytes nodes) input answer
IsJobOutput (job.Counts loading turns file) input answer =
    IsCountsOutput loading turns input answer
IsJobOutput (job.Report loading start turns file) input answer =
    IsReportOutput loading start turns input answer
IsJobOutput (job.Explain topic) input answer = answer ≡ Ok (explain_output topic)

-- each job except `explain` reads an input
abbrev pub reads_input : Job → Bool
reads_input (job.Explain topic) = false
reads_input job = true

-- a waveform is written in pieces, as it is made
abbrev pub writes_pieces : Job → Bool
writes_pieces (job.Trace loading turns nodes save file) = true
writes_pieces job = false

-- `-` means standard input
abbrev pub named_file : {A : Type 0} → String A → Option (List ℕ)
named_file file =
    if bytes_eq (string_bytes file) (codes "-") then None else Some (string_bytes file)

abbrev pub only_file : {A : Type 0} → List (String A) → Option (List ℕ)
only_file (file ∷ []) = named_file file
only_file files = None

abbrev pub given_file : {A : Type 0} → Option (String A) → Option (List ℕ)
given_file file = option_and_then named_file file

-- the file that a job reads in place of standard input
abbrev pub file_of : Job → Option (List ℕ)
file_of (job.One tries file) = given_file file
file_of (job.Asm file) = given_file file
file_of (job.Dis code file) = given_file file
file_of (job.Boot route file) = given_file file
file_of (job.Run route workers turns file) = given_file file
file_of (job.Replay file) = given_file file
file_of (job.Expand file) = given_file file
file_of (job.List labels file) = given_file file
file_of (job.Lint deny json file) = given_file file
file_of (job.Check files any) = only_file files.items
file_of (job.Record file any) = given_file file
file_of (job.Race loading turns witness file) = given_file file
file_of (job.Map loading turns file) = given_file file
file_of (job.Profile loading start json turns file) = given_file file
file_of (job.Trace loading turns nodes save file) = given_file file
file_of (job.Counts loading turns file) = given_file file
file_of (job.Report loading start turns file) = given_file file
file_of (job.Talk loading file any) = named_file file
file_of job = None

-- the files of a job that names two or more
abbrev pub several_files_of : Job → Option (List (List ℕ))
several_files_of (job.Check files any) =
    if nat_lt 1 (length files.items) then Some (map string_bytes files.items) else None
several_files_of job = None

-- a source that a transcript of the job names may lie outside its folder
abbrev pub takes_any_source : Job → Bool
takes_any_source (job.Talk loading file any) = any
takes_any_source (job.Check files any) = any
takes_any_source (job.Record file any) = any
takes_any_source (job.Rewrite files any) = any
takes_any_source job = false

-- the job that is handed the means to start threads
abbrev pub needs_threads : Job → Bool
needs_threads (job.Run route workers turns file) = true
needs_threads job = false
