-- The command line: the command as clap's definitions read it, and the job that its words name.
use Rattle.std.specs.Prelude.{◌≡◌, ◌<◌, ◌≤◌, ◌∷◌, ◌++◌, [], List, true, false, codes, fold, length, map, IfSome, IsSomeAnd, Option, None, Some, option_map, string_bytes}
use Rattle.std.specs.Option.{option_map_or}
use Rattle.clap.specs.Words.{App, Row, Rule, Text, new_app, new_rule, subcommand_of, takes}
use Rattle.ga_jobs.specs.declared.Job.{Job}
use Rattle.ga_jobs.specs.declared.Job.TheVariants.{One, Asm, Dis, Boot, Run, Debug, Talk, Replay, Explain}
use Rattle.ga_jobs.specs.declared.Job.TheVariants as job
use Rattle.ga_input.specs.declared.loading.Loading.TheVariants.{Any}
use Rattle.ga_command_line.specs.declared.Subcommand.{Subcommand}
use Rattle.ga_command_line.specs.declared.Subcommand.TheVariants as sub
use Rattle.ga_command_line.specs.Arguments.{all_files, any_source, command_with, flag, number_option, of_loading, of_profile, of_run, one_file, option, required_number, required_text}
use Rattle.ga_command_line.specs.Command.{linked}
use Rattle.ga_command_line.specs.Explain.{IsOfTable, IsTopicAt}
use Rattle.ga_command_line.specs.File.{IsFileAt, files_at}
use Rattle.ga_command_line.specs.Flag.{is_set}
use Rattle.ga_command_line.specs.Loading.{IsLoadingAt}
use Rattle.ga_command_line.specs.Number.{IsNumberAt, IsNumberIfAt}
use Rattle.ga_command_line.specs.Route.{IsRouteAt}
use Rattle.ga_command_line.specs.Start.{IsStartAt, IsStartInRange}
use Rattle.ga_command_line.specs.TraceLine.{IsListAt, IsSaveAt}

-- the command without its subcommands, of which one is required
unfoldable pub bare_command : App
bare_command =
    let named = new_app (codes "ga-bench") in
    record named { top = record named.top { has_version = true; subcommand_required = true } }

-- the arguments of each subcommand, in the order of its help
abbrev pub rules_of : Subcommand → List Rule
rules_of sub.One = required_number (codes "TRIES") 0 1000000 ∷ one_file ∷ []
rules_of sub.Asm = one_file ∷ []
rules_of sub.Dis = number_option (codes "N") (codes "code") 64 ∷ one_file ∷ []
rules_of sub.Boot = required_text (codes "ROUTE") ∷ one_file ∷ []
rules_of sub.Run =
    required_text (codes "ROUTE") ∷ required_number (codes "WORKERS") 1 144
    ∷ required_number (codes "TURNS") 0 1000000 ∷ one_file ∷ []
rules_of sub.Debug = of_loading ++ any_source ∷ one_file ∷ []
rules_of sub.Replay = one_file ∷ []
rules_of sub.Expand = one_file ∷ []
rules_of sub.List =
    of_run ++ flag (codes "LABELS") (codes "labels") ∷ flag (codes "COUNTS") (codes "counts")
    ∷ one_file ∷ []
rules_of sub.Lint =
    flag (codes "DENY") (codes "deny") ∷ flag (codes "JSON") (codes "json") ∷ one_file ∷ []
rules_of sub.Race = of_run ++ flag (codes "WITNESS") (codes "witness") ∷ one_file ∷ []
rules_of sub.Map = of_run ++ one_file ∷ []
rules_of sub.Profile = of_profile ++ flag (codes "JSON") (codes "json") ∷ one_file ∷ []
rules_of sub.Trace =
    of_run ++ option (codes "LIST") (codes "nodes") ∷ option (codes "SAVE") (codes "save")
    ∷ one_file ∷ []
rules_of sub.Report = of_profile ++ one_file ∷ []
rules_of sub.Check = any_source ∷ all_files ∷ []
rules_of sub.Record = any_source ∷ flag (codes "WRITE") (codes "write") ∷ all_files ∷ []
rules_of sub.Explain = new_rule (codes "NAME") ∷ []

abbrev pub name_of : Subcommand → Text
name_of sub.One = codes "one"
name_of sub.Asm = codes "asm"
name_of sub.Dis = codes "dis"
name_of sub.Boot = codes "boot"
name_of sub.Run = codes "run"
name_of sub.Debug = codes "debug"
name_of sub.Replay = codes "replay"
name_of sub.Expand = codes "expand"
name_of sub.List = codes "list"
name_of sub.Lint = codes "lint"
name_of sub.Race = codes "race"
name_of sub.Map = codes "map"
name_of sub.Profile = codes "profile"
name_of sub.Trace = codes "trace"
name_of sub.Report = codes "report"
name_of sub.Check = codes "check"
name_of sub.Record = codes "record"
name_of sub.Explain = codes "explain"

-- the command of each subcommand
abbrev pub command_of : Subcommand → App
command_of subcommand = command_with (name_of subcommand) (rules_of subcommand)

-- the subcommands, in the order of help
abbrev pub subcommands : List Subcommand
subcommands =
    sub.One ∷ sub.Asm ∷ sub.Dis ∷ sub.Boot ∷ sub.Run ∷ sub.Debug ∷ sub.Replay ∷ sub.Expand ∷
    sub.List ∷ sub.Lint ∷ sub.Race ∷ sub.Map ∷ sub.Profile ∷ sub.Trace ∷ sub.Report ∷
    sub.Check ∷ sub.Record ∷ sub.Explain ∷ []

-- the whole command
unfoldable pub bench_command : App
bench_command = fold linked bare_command (map command_of subcommands)

-- the name of the subcommand that a job is asked for by
abbrev pub job_name : Job → Text
job_name (One tries file) = codes "one"
job_name (Asm file) = codes "asm"
job_name (Dis code file) = codes "dis"
job_name (Boot route file) = codes "boot"
job_name (Run route workers turns file) = codes "run"
job_name Debug = codes "debug"
job_name (Talk loading file any) = codes "debug"
job_name (Replay file) = codes "replay"
job_name (job.Expand file) = codes "expand"
job_name (job.List labels file) = codes "list"
job_name (job.Lint deny json file) = codes "lint"
job_name (job.Race loading turns witness file) = codes "race"
job_name (job.Map loading turns file) = codes "map"
job_name (job.Profile loading start json turns file) = codes "profile"
job_name (job.Trace loading turns nodes save file) = codes "trace"
job_name (job.Counts loading turns file) = codes "list"
job_name (job.Report loading start turns file) = codes "report"
job_name (job.Check files any) = codes "check"
job_name (job.Record file any) = codes "record"
job_name (job.Rewrite files any) = codes "record"
job_name (Explain topic) = codes "explain"

-- the arguments that a job is asked for by
abbrev pub HasArguments : List Row → Job → Type 0
HasArguments rows (One tries file) =
    IsNumberAt (codes "TRIES") rows tries × IsFileAt rows (option_map string_bytes file)
HasArguments rows (Asm file) = IsFileAt rows (option_map string_bytes file)
HasArguments rows (Dis code file) =
    IsNumberIfAt (codes "N") rows code × IsFileAt rows (option_map string_bytes file)
HasArguments rows (Boot route file) =
    IsRouteAt rows (string_bytes route) × IsFileAt rows (option_map string_bytes file)
HasArguments rows (Run route workers turns file) =
    IsRouteAt rows (string_bytes route) × IsNumberAt (codes "WORKERS") rows workers
    × IsNumberAt (codes "TURNS") rows turns × IsFileAt rows (option_map string_bytes file)
HasArguments rows Debug = IsLoadingAt rows Any × IsFileAt rows None
HasArguments rows (Talk loading file any) =
    IsLoadingAt rows loading × IsFileAt rows (Some (string_bytes file))
    × (any ≡ is_set (codes "ANY") rows)
HasArguments rows (Replay file) = IsFileAt rows (option_map string_bytes file)
HasArguments rows (job.Expand file) = IsFileAt rows (option_map string_bytes file)
HasArguments rows (job.List labels file) =
    (is_set (codes "COUNTS") rows ≡ false) × (labels ≡ is_set (codes "LABELS") rows)
    × IsLoadingAt rows Any × IsNumberIfAt (codes "N") rows None
    × IsFileAt rows (option_map string_bytes file)
HasArguments rows (job.Lint deny json file) =
    (deny ≡ is_set (codes "DENY") rows) × (json ≡ is_set (codes "JSON") rows)
    × IsFileAt rows (option_map string_bytes file)
HasArguments rows (job.Counts loading turns file) =
    (is_set (codes "COUNTS") rows ≡ true) × (is_set (codes "LABELS") rows ≡ false)
    × IsLoadingAt rows loading × IsNumberIfAt (codes "N") rows turns
    × IsFileAt rows (option_map string_bytes file)
HasArguments rows (job.Race loading turns witness file) =
    IsLoadingAt rows loading × IsNumberIfAt (codes "N") rows turns
    × (witness ≡ is_set (codes "WITNESS") rows) × IsFileAt rows (option_map string_bytes file)
HasArguments rows (job.Map loading turns file) =
    IsLoadingAt rows loading × IsNumberIfAt (codes "N") rows turns
    × IsFileAt rows (option_map string_bytes file)
HasArguments rows (job.Profile loading start json turns file) =
    IsLoadingAt rows loading × IsNumberIfAt (codes "N") rows turns × IsStartAt rows start
    × (json ≡ is_set (codes "JSON") rows) × IsFileAt rows (option_map string_bytes file)
HasArguments rows (job.Trace loading turns nodes save file) =
    IsLoadingAt rows loading × IsNumberIfAt (codes "N") rows turns
    × IsListAt rows (option_map string_bytes nodes) × IsSaveAt rows (option_map string_bytes save)
    × IsFileAt rows (option_map string_bytes file)
HasArguments rows (job.Report loading start turns file) =
    IsLoadingAt rows loading × IsNumberIfAt (codes "N") rows turns × IsStartAt rows start
    × IsFileAt rows (option_map string_bytes file)
HasArguments rows (job.Check files any) =
    (map string_bytes files.items ≡ files_at rows) × (any ≡ is_set (codes "ANY") rows)
HasArguments rows (job.Record file any) =
    (is_set (codes "WRITE") rows ≡ false)
    × (files_at rows ≡ option_map_or (λ name. name ∷ []) (option_map string_bytes file) [])
    × (any ≡ is_set (codes "ANY") rows)
HasArguments rows (job.Rewrite files any) =
    (is_set (codes "WRITE") rows ≡ true) × (map string_bytes files.items ≡ files_at rows)
    × (0 < length files.items) × (any ≡ is_set (codes "ANY") rows)
HasArguments rows (Explain topic) = IsTopicAt rows topic

-- the numbers of a job lie in their ranges, and its topic is one of the table
abbrev pub InRange : Job → Type 0
InRange (One tries file) = tries ≤ 1000000
InRange (Dis code file) = IfSome code (λ number. number ≤ 64)
InRange (Run route workers turns file) = ((1 ≤ workers) × (workers ≤ 144)) × (turns ≤ 1000000)
InRange (job.Race loading turns witness file) = IfSome turns (λ number. number ≤ 1000000)
InRange (job.Map loading turns file) = IfSome turns (λ number. number ≤ 1000000)
InRange (job.Profile loading start json turns file) =
    IfSome turns (λ number. number ≤ 1000000) × IsStartInRange start
InRange (job.Trace loading turns nodes save file) = IfSome turns (λ number. number ≤ 1000000)
InRange (job.Counts loading turns file) = IfSome turns (λ number. number ≤ 1000000)
InRange (job.Report loading start turns file) =
    IfSome turns (λ number. number ≤ 1000000) × IsStartInRange start
InRange (Explain topic) = IsOfTable topic
InRange job = Unit {0}

-- a subcommand and its arguments ask for this job
abbrev pub AsksFor : Text × List Row → Job → Type 0
AsksFor entered job = (entered.0 ≡ job_name job) × HasArguments entered.1 job

-- the job that is asked for by a subcommand and its arguments, if there is one
abbrev pub IsAskedFor : Option (Text × List Row) → Job → Type 0
IsAskedFor entered job = IsSomeAnd entered (λ found. AsksFor found job)

-- the job that the words of a command line name, of which the first is the program's name
abbrev pub IsJobOf : List Text → Job → Type 0
IsJobOf words job = IsAskedFor (subcommand_of bench_command words) job

-- The words are right: clap takes them, and they name this job, whose numbers lie in their ranges.
abbrev pub IsRight : List Text → Job → Type 0
IsRight words job = (takes bench_command words ≡ true) × IsJobOf words job × InRange job
