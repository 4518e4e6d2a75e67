-- What `profile` writes as JSON.
use Rattle.std.specs.Prelude.{◌≡◌, ◌++◌, ℕ, List, Option, Ok, codes}
use Rattle.ga_json.specs.Run.{IsRunJson}
use Rattle.ga_profile.specs.declared.window.WindowStart.{WindowStart}
use Rattle.ga_transcript.specs.Live.{LiveView}
use Rattle.ga_jobs.specs.{file_of}
use Rattle.ga_jobs.specs.declared.Job.{Job}
use Rattle.ga_input.specs.declared.loading.Loading.{Loading}
use Rattle.ga_views.specs.Race.{most_turns}
use Rattle.ga_input.specs.Session.{IsSession}
use Rattle.ga_bench.specs.Input.{IsReadBy}

-- a line: the profile of the run of the session that a job's input opens
abbrev pub AreNumbers : Job → Loading → WindowStart → Option ℕ → List ℕ → List ℕ → Type 0
AreNumbers job loading start turns input line =
    (live : LiveView) × IsReadBy (file_of job) (IsSession loading) input (Ok live)
    × ((text : List ℕ) × IsRunJson start (most_turns turns) live.chip text
    × (line ≡ text ++ codes "\n"))
