-- Command lines that were worked out by hand.
use Rattle.std.proofs.Common.{◌≡◌, ◌<◌, Global, String, Vec, length, map, string_bytes, ap, sym, true, false, [], ◌∷◌, Some, None, refl, lit<, lit≤}
use Rattle.std.specs.Prelude.{codes}
use Rattle.clap.proofs.OnLiterals.{clap_on_literals}
use Rattle.clap.specs.Words.{takes}
use Rattle.ga_jobs.specs.declared.Job.TheVariants.{One, Asm, Dis, Boot, List, Lint, Counts, Race, Map, Trace, Report, Check, Record, Rewrite, Explain}
use Rattle.ga_input.specs.declared.loading.Loading.TheVariants.{Any}
use Rattle.ga_explain.specs.declared.topic.Topic.{Topic}
use Rattle.ga_profile.specs.declared.window.WindowStart.TheVariants.{LastNode}
use Rattle.ga_command_line.specs.Explain.{IsOfTable}
use Rattle.ga_command_line.specs.CommandLine.{IsRight, bench_command}
use Rattle.ga_command_line.proofs.Opened.{whole_command}

right_line : IsRight (codes "ga-bench" ∷ codes "one" ∷ codes "5" ∷ []) (One 5 None)
unfolding whole_command clap_on_literals
right_line = (refl, (refl, (((lit< tt, (lit< tt, tt)), refl), refl)), lit≤ tt)

code_line : IsRight
    (codes "ga-bench" ∷ codes "dis" ∷ codes "--code" ∷ codes "2" ∷ []) (Dis (Some 2) None)
unfolding whole_command clap_on_literals
code_line = (refl, (refl, (((lit< tt, (lit< tt, tt)), refl), refl)), lit≤ tt)

all_code_line : IsRight (codes "ga-bench" ∷ codes "dis" ∷ []) (Dis None None)
unfolding whole_command clap_on_literals
all_code_line = (refl, (refl, (refl, refl)), tt)

boot_line : (route : String Global) → string_bytes route ≡ codes "708,709"
    → IsRight (codes "ga-bench" ∷ codes "boot" ∷ codes "708,709" ∷ []) (Boot route None)
unfolding whole_command clap_on_literals
boot_line route is = (refl, (refl, (ap Some (sym is), refl)), tt)

asm_line : (file : String Global) → string_bytes file ≡ codes "ring"
    → IsRight (codes "ga-bench" ∷ codes "asm" ∷ codes "ring" ∷ []) (Asm (Some file))
unfolding whole_command clap_on_literals
asm_line file is = (refl, (refl, ap Some is), tt)

lint_line : IsRight (codes "ga-bench" ∷ codes "lint" ∷ codes "--deny" ∷ []) (Lint true false None)
unfolding whole_command clap_on_literals
lint_line = (refl, (refl, (refl, refl, refl)), tt)

check_line : (files : Vec (String Global) Global)
    → map string_bytes files.items ≡ codes "ring" ∷ codes "sum" ∷ []
    → IsRight (codes "ga-bench" ∷ codes "check" ∷ codes "ring" ∷ codes "sum" ∷ [])
    (Check files false)
unfolding whole_command clap_on_literals
check_line files is = (refl, (refl, (is, refl)), tt)

record_line : IsRight (codes "ga-bench" ∷ codes "record" ∷ []) (Record None false)
unfolding whole_command clap_on_literals
record_line = (refl, (refl, (refl, refl, refl)), tt)

rewrite_line : (files : Vec (String Global) Global)
    → map string_bytes files.items ≡ codes "ring" ∷ codes "sum" ∷ [] → 0 < length files.items
    → IsRight
    (codes "ga-bench" ∷ codes "record" ∷ codes "--write" ∷ codes "ring" ∷ codes "sum" ∷ [])
    (Rewrite files false)
unfolding whole_command clap_on_literals
rewrite_line files is some = (refl, (refl, (refl, is, some, refl)), tt)

names_line : IsRight (codes "ga-bench" ∷ codes "explain" ∷ []) (Explain None)
unfolding whole_command clap_on_literals
names_line = (refl, (refl, refl), tt)

topic_line : (topic : Topic) → topic.name.now ≡ codes "BadToken" → IsOfTable (Some topic)
    → IsRight (codes "ga-bench" ∷ codes "explain" ∷ codes "BadToken" ∷ []) (Explain (Some topic))
unfolding whole_command clap_on_literals
topic_line topic is of_table = (refl, (refl, ap Some is), of_table)

race_line : (file : String Global) → string_bytes file ≡ codes "arbiter"
    → IsRight (codes "ga-bench" ∷ codes "race" ∷ codes "--witness" ∷ codes "arbiter" ∷ [])
    (Race Any None true (Some file))
unfolding whole_command clap_on_literals
race_line file is = (refl, (refl, ((refl, refl), refl, refl, ap Some is)), tt)

map_line : (file : String Global) → string_bytes file ≡ codes "arbiter"
    → IsRight (codes "ga-bench" ∷ codes "map" ∷ codes "--turns" ∷ codes "14" ∷ codes "arbiter" ∷ [])
    (Map Any (Some 14) (Some file))
unfolding whole_command clap_on_literals
map_line file is =
    (refl, (refl, ((refl, refl), ((lit< tt, (lit< tt, (lit< tt, tt))), refl), ap Some is)), lit≤ tt)

trace_line : (nodes file : String Global) → string_bytes nodes ≡ codes "708,709"
    → string_bytes file ≡ codes "ring"
    → IsRight
    (codes "ga-bench" ∷ codes "trace" ∷ codes "--nodes" ∷ codes "708,709" ∷ codes "ring" ∷ [])
    (Trace Any None (Some nodes) None (Some file))
unfolding whole_command clap_on_literals
trace_line nodes file is names =
    (refl, (refl, ((refl, refl), refl, ap Some is, refl, ap Some names)), tt)

list_line : (file : String Global) → string_bytes file ≡ codes "ring"
    → IsRight (codes "ga-bench" ∷ codes "list" ∷ codes "--labels" ∷ codes "ring" ∷ [])
    (List true (Some file))
unfolding whole_command clap_on_literals
list_line file is = (refl, (refl, (refl, refl, (refl, refl), refl, ap Some is)), tt)

counts_line : (file : String Global) → string_bytes file ≡ codes "ring"
    → IsRight
    (codes "ga-bench" ∷ codes "list" ∷ codes "--counts" ∷ codes "--turns" ∷ codes "14"
    ∷ codes "ring" ∷ [])
    (Counts Any (Some 14) (Some file))
unfolding whole_command clap_on_literals
counts_line file is = (
  refl,
  (
    refl,
    (
      refl,
      refl,
      (refl, refl),
      ((lit< tt, (lit< tt, (lit< tt, tt))), refl),
      ap Some is,
    ),
  ),
  lit≤ tt,
)

report_line : IsRight (codes "ga-bench" ∷ codes "report" ∷ []) (Report Any LastNode None None)
unfolding whole_command clap_on_literals
report_line = (refl, (refl, ((refl, refl), refl, refl, refl)), (tt, tt))

two_topics : takes bench_command
    (codes "ga-bench" ∷ codes "explain" ∷ codes "own" ∷ codes "take" ∷ []) ≡ false
unfolding whole_command clap_on_literals
two_topics = refl

-- one more than the most tries, and none
over_the_range : takes bench_command (codes "ga-bench" ∷ codes "one" ∷ codes "1000001" ∷ []) ≡ false
unfolding whole_command clap_on_literals
over_the_range = refl

without_tries : takes bench_command (codes "ga-bench" ∷ codes "one" ∷ []) ≡ false
unfolding whole_command clap_on_literals
without_tries = refl

-- one more than the most words
over_the_code : takes bench_command
    (codes "ga-bench" ∷ codes "dis" ∷ codes "--code" ∷ codes "65" ∷ []) ≡ false
unfolding whole_command clap_on_literals
over_the_code = refl

without_route : takes bench_command (codes "ga-bench" ∷ codes "boot" ∷ []) ≡ false
unfolding whole_command clap_on_literals
without_route = refl

without_subcommand : takes bench_command (codes "ga-bench" ∷ []) ≡ false
unfolding whole_command clap_on_literals
without_subcommand = refl
