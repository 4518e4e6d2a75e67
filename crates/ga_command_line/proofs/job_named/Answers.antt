use Rattle.std.proofs.Common.{◌≡◌, ◌∙◌, ◌≤◌, ℕ, List, Option, Result, Ok, Err, IfErr, IfSome, ap, rules, string_bytes, sym}
use Rattle.std.specs.Prelude.{codes}
use Rattle.std.specs.Str.{bytes_eq}
use Rattle.std.proofs.lemmas.Bool.{false≢true}
use Rattle.clap.specs.Words.{Row, Text, found_of, rows_of}
use Rattle.ga_jobs.specs.declared.Job.{Job}
use Rattle.ga_jobs.specs.declared.Job.TheVariants.{Asm, Boot, Dis, Map, One, Profile, Race, Report, Run, Trace}
use Rattle.ga_input.specs.declared.loading.Loading.{Loading}
use Rattle.ga_profile.specs.declared.window.WindowStart.{WindowStart}
use Rattle.ga_command_line.specs.declared.command_line.LineError.{LineError}
use Rattle.ga_command_line.specs.declared.command_line.LineError.TheVariants.{Memory}
use Rattle.ga_command_line.specs.CommandLine.{AsksFor, InRange}
use Rattle.ga_command_line.specs.Number.{IsNumberAt, IsNumberIfAt}
use Rattle.ga_command_line.specs.Loading.{IsLoadingAt}
use Rattle.ga_command_line.specs.Route.{IsRouteAt}
use Rattle.ga_command_line.specs.Start.{IsStartAt, IsStartInRange}
use Rattle.ga_command_line.proofs.job_named.Goals as goal

-- a name that is none of a subcommand's asks for no job
pub returns-in_default-clause-right : goal.returns-in_default-clause-right
returns-in_default-clause-right c =
    λ asked. elim asked as (λ job. AsksFor (c.args.name.now, rows_of (found_of c.args.found.now))
    job → InRange job → c.missing.result ≡ Memory) [
      | Asm file ↦ λ asks within. absurd (c.in_default.not-asm asks.0)
      | _ ↦ λ asks within. absurd (search rules)
    ]

-- the name `run` asks for a run alone
run_right : (name : Text) (rows : List Row) (result : Result Job LineError) → name ≡ codes "run"
    → IfErr result (λ error. (route : Text) (workers turns : ℕ)
    → ((1 ≤ workers) × (workers ≤ 144)) × (turns ≤ 1000000)
    → IsRouteAt rows route × IsNumberAt (codes "WORKERS") rows workers
    × IsNumberAt (codes "TURNS") rows turns → error ≡ Memory)
    → IfErr result (λ error. (job : Job) → AsksFor (name, rows) job → InRange job → error ≡ Memory)
run_right name rows (Ok job) is right = right
run_right name rows (Err error) is right =
    λ asked. elim asked as (λ job. AsksFor (name, rows) job → InRange job → error ≡ Memory) [
      | Run route workers turns file ↦ λ asks within.
          right (string_bytes route) workers turns within (asks.1.0, asks.1.1, asks.1.2)
      | _ ↦ λ asks within. absurd (false≢true
          (sym (ap (λ (text : Text). bytes_eq text (codes "run")) (sym is ∙ asks.0))))
    ]

pub returns-in-run-clause-right : goal.returns-in-run-clause-right
returns-in-run-clause-right c =
    run_right c.args.name.now (rows_of (found_of c.args.found.now)) c.job_of-in-run.result
    c.in-run.is c.job_of-in-run.ensures.right

-- and the name `one` for tries of one node alone
one_right : (name : Text) (rows : List Row) (result : Result Job LineError) → name ≡ codes "one"
    → IfErr result (λ error. (tries : ℕ) → tries ≤ 1000000 → IsNumberAt (codes "TRIES") rows tries
    → error ≡ Memory)
    → IfErr result (λ error. (job : Job) → AsksFor (name, rows) job → InRange job → error ≡ Memory)
one_right name rows (Ok job) is right = right
one_right name rows (Err error) is right =
    λ asked. elim asked as (λ job. AsksFor (name, rows) job → InRange job → error ≡ Memory) [
      | One tries file ↦ λ asks within. right tries within asks.1.0
      | _ ↦ λ asks within. absurd (false≢true
          (sym (ap (λ (text : Text). bytes_eq text (codes "one")) (sym is ∙ asks.0))))
    ]

pub returns-in-one-clause-right : goal.returns-in-one-clause-right
returns-in-one-clause-right c =
    one_right c.args.name.now (rows_of (found_of c.args.found.now)) c.job_of.result
    c.in-one.is c.job_of.ensures.right

-- and the name `dis` for the text of words alone
dis_right : (name : Text) (rows : List Row) (result : Result Job LineError) → name ≡ codes "dis"
    → IfErr result (λ error. (code : Option ℕ) → IfSome code (λ number. number ≤ 64)
    → IsNumberIfAt (codes "N") rows code → error ≡ Memory)
    → IfErr result (λ error. (job : Job) → AsksFor (name, rows) job → InRange job → error ≡ Memory)
dis_right name rows (Ok job) is right = right
dis_right name rows (Err error) is right =
    λ asked. elim asked as (λ job. AsksFor (name, rows) job → InRange job → error ≡ Memory) [
      | Dis code file ↦ λ asks within. right code within asks.1.0
      | _ ↦ λ asks within. absurd (false≢true
          (sym (ap (λ (text : Text). bytes_eq text (codes "dis")) (sym is ∙ asks.0))))
    ]

pub returns-in-dis-clause-right : goal.returns-in-dis-clause-right
returns-in-dis-clause-right c =
    dis_right c.args.name.now (rows_of (found_of c.args.found.now)) c.job_of-in-dis.result
    c.in-dis.is c.job_of-in-dis.ensures.right

-- and the name `boot` for a boot stream alone
boot_right : (name : Text) (rows : List Row) (result : Result Job LineError) → name ≡ codes "boot"
    → IfErr result (λ error. (route : Text) → IsRouteAt rows route → error ≡ Memory)
    → IfErr result (λ error. (job : Job) → AsksFor (name, rows) job → InRange job → error ≡ Memory)
boot_right name rows (Ok job) is right = right
boot_right name rows (Err error) is right =
    λ asked. elim asked as (λ job. AsksFor (name, rows) job → InRange job → error ≡ Memory) [
      | Boot route file ↦ λ asks within. right (string_bytes route) asks.1.0
      | _ ↦ λ asks within. absurd (false≢true
          (sym (ap (λ (text : Text). bytes_eq text (codes "boot")) (sym is ∙ asks.0))))
    ]

pub returns-in-boot-clause-right : goal.returns-in-boot-clause-right
returns-in-boot-clause-right c =
    boot_right c.args.name.now (rows_of (found_of c.args.found.now)) c.job_of-in-boot.result
    c.in-boot.is c.job_of-in-boot.ensures.right

-- and the name `race` for a verdict alone
race_right : (name : Text) (rows : List Row) (result : Result Job LineError) → name ≡ codes "race"
    → IfErr result (λ error. (loading : Loading) (turns : Option ℕ)
    → IfSome turns (λ number. number ≤ 1000000) → IsLoadingAt rows loading
    → IsNumberIfAt (codes "N") rows turns → error ≡ Memory)
    → IfErr result (λ error. (job : Job) → AsksFor (name, rows) job → InRange job → error ≡ Memory)
race_right name rows (Ok job) is right = right
race_right name rows (Err error) is right =
    λ asked. elim asked as (λ job. AsksFor (name, rows) job → InRange job → error ≡ Memory) [
      | Race loading turns witness file ↦
          λ asks within. right loading turns within asks.1.0 asks.1.1
      | _ ↦ λ asks within. absurd (false≢true
          (sym (ap (λ (text : Text). bytes_eq text (codes "race")) (sym is ∙ asks.0))))
    ]

pub returns-in-race-clause-right : goal.returns-in-race-clause-right
returns-in-race-clause-right c =
    race_right c.args.name.now (rows_of (found_of c.args.found.now)) c.job_of-in-race.result
    c.in-race.is c.job_of-in-race.ensures.right

-- and the name `map` for a picture alone
map_right : (name : Text) (rows : List Row) (result : Result Job LineError) → name ≡ codes "map"
    → IfErr result (λ error. (loading : Loading) (turns : Option ℕ)
    → IfSome turns (λ number. number ≤ 1000000) → IsLoadingAt rows loading
    → IsNumberIfAt (codes "N") rows turns → error ≡ Memory)
    → IfErr result (λ error. (job : Job) → AsksFor (name, rows) job → InRange job → error ≡ Memory)
map_right name rows (Ok job) is right = right
map_right name rows (Err error) is right =
    λ asked. elim asked as (λ job. AsksFor (name, rows) job → InRange job → error ≡ Memory) [
      | Map loading turns file ↦ λ asks within. right loading turns within asks.1.0 asks.1.1
      | _ ↦ λ asks within. absurd (false≢true
          (sym (ap (λ (text : Text). bytes_eq text (codes "map")) (sym is ∙ asks.0))))
    ]

pub returns-in-map-clause-right : goal.returns-in-map-clause-right
returns-in-map-clause-right c =
    map_right c.args.name.now (rows_of (found_of c.args.found.now)) c.job_of-in-map.result
    c.in-map.is c.job_of-in-map.ensures.right

-- and the name `profile` for a profile alone
profile_right : (name : Text) (rows : List Row) (result : Result Job LineError)
    → name ≡ codes "profile"
    → IfErr result (λ error. (loading : Loading) (start : WindowStart) (turns : Option ℕ)
    → IfSome turns (λ number. number ≤ 1000000) → IsStartInRange start
    → IsLoadingAt rows loading → IsNumberIfAt (codes "N") rows turns → IsStartAt rows start
    → error ≡ Memory)
    → IfErr result (λ error. (job : Job) → AsksFor (name, rows) job → InRange job → error ≡ Memory)
profile_right name rows (Ok job) is right = right
profile_right name rows (Err error) is right =
    λ asked. elim asked as (λ job. AsksFor (name, rows) job → InRange job → error ≡ Memory) [
      | Profile loading start json turns file ↦ λ asks within.
          right loading start turns within.0 within.1 asks.1.0 asks.1.1 asks.1.2
      | _ ↦ λ asks within. absurd (false≢true
          (sym (ap (λ (text : Text). bytes_eq text (codes "profile")) (sym is ∙ asks.0))))
    ]

pub returns-in-profile-clause-right : goal.returns-in-profile-clause-right
returns-in-profile-clause-right c =
    profile_right c.args.name.now (rows_of (found_of c.args.found.now)) c.job_of-in-profile.result
    c.in-profile.is c.job_of-in-profile.ensures.right

-- and the name `trace` for a waveform alone
trace_right : (name : Text) (rows : List Row) (result : Result Job LineError)
    → name ≡ codes "trace"
    → IfErr result (λ error. (loading : Loading) (turns : Option ℕ)
    → IfSome turns (λ number. number ≤ 1000000) → IsLoadingAt rows loading
    → IsNumberIfAt (codes "N") rows turns → error ≡ Memory)
    → IfErr result (λ error. (job : Job) → AsksFor (name, rows) job → InRange job → error ≡ Memory)
trace_right name rows (Ok job) is right = right
trace_right name rows (Err error) is right =
    λ asked. elim asked as (λ job. AsksFor (name, rows) job → InRange job → error ≡ Memory) [
      | Trace loading turns nodes save file ↦
          λ asks within. right loading turns within asks.1.0 asks.1.1
      | _ ↦ λ asks within. absurd (false≢true
          (sym (ap (λ (text : Text). bytes_eq text (codes "trace")) (sym is ∙ asks.0))))
    ]

pub returns-in-trace-clause-right : goal.returns-in-trace-clause-right
returns-in-trace-clause-right c =
    trace_right c.args.name.now (rows_of (found_of c.args.found.now)) c.job_of-in-trace.result
    c.in-trace.is c.job_of-in-trace.ensures.right

-- and the name `report` for a page alone
report_right : (name : Text) (rows : List Row) (result : Result Job LineError)
    → name ≡ codes "report"
    → IfErr result (λ error. (loading : Loading) (start : WindowStart) (turns : Option ℕ)
    → IfSome turns (λ number. number ≤ 1000000) → IsStartInRange start
    → IsLoadingAt rows loading → IsNumberIfAt (codes "N") rows turns → IsStartAt rows start
    → error ≡ Memory)
    → IfErr result (λ error. (job : Job) → AsksFor (name, rows) job → InRange job → error ≡ Memory)
report_right name rows (Ok job) is right = right
report_right name rows (Err error) is right =
    λ asked. elim asked as (λ job. AsksFor (name, rows) job → InRange job → error ≡ Memory) [
      | Report loading start turns file ↦ λ asks within.
          right loading start turns within.0 within.1 asks.1.0 asks.1.1 asks.1.2
      | _ ↦ λ asks within. absurd (false≢true
          (sym (ap (λ (text : Text). bytes_eq text (codes "report")) (sym is ∙ asks.0))))
    ]

pub returns-in-report-clause-right : goal.returns-in-report-clause-right
returns-in-report-clause-right c =
    report_right c.args.name.now (rows_of (found_of c.args.found.now)) c.job_of-in-report.result
    c.in-report.is c.job_of-in-report.ensures.right

-- and the name `list` for listings alone
list_right : (name : Text) (rows : List Row) (result : Result Job LineError)
    → name ≡ codes "list"
    → IfErr result (λ error. (job : Job) → AsksFor (codes "list", rows) job → InRange job
    → error ≡ Memory)
    → IfErr result (λ error. (job : Job) → AsksFor (name, rows) job → InRange job → error ≡ Memory)
list_right name rows (Ok job) is right = right
list_right name rows (Err error) is right =
    λ job asks within. right job (sym is ∙ asks.0, asks.1) within

pub returns-in-list-clause-right : goal.returns-in-list-clause-right
returns-in-list-clause-right c =
    list_right c.args.name.now (rows_of (found_of c.args.found.now)) c.job_of-in-list.result
    c.in-list.is c.job_of-in-list.ensures.right

-- and the name `record` for a recording alone
record_right : (name : Text) (rows : List Row) (result : Result Job LineError)
    → name ≡ codes "record"
    → IfErr result (λ error. (job : Job) → AsksFor (codes "record", rows) job → error ≡ Memory)
    → IfErr result (λ error. (job : Job) → AsksFor (name, rows) job → InRange job → error ≡ Memory)
record_right name rows (Ok job) is right = right
record_right name rows (Err error) is right =
    λ job asks within. right job (sym is ∙ asks.0, asks.1)

pub returns-in-record-clause-right : goal.returns-in-record-clause-right
returns-in-record-clause-right c =
    record_right c.args.name.now (rows_of (found_of c.args.found.now)) c.job_of-in-record.result
    c.in-record.is c.job_of-in-record.ensures.right
