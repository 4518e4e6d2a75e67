-- The save file beside a waveform.
use Rattle.std.specs.Prelude.{◌≡◌, ℕ, List, Option, Ok}
use Rattle.ga_transcript.specs.Live.{LiveView}
use Rattle.ga_jobs.specs.{file_of}
use Rattle.ga_jobs.specs.declared.Job.{Job}
use Rattle.ga_input.specs.declared.loading.Loading.{Loading}
use Rattle.ga_input.specs.Session.{IsSession}
use Rattle.ga_views.specs.TraceJob.{saved_for}
use Rattle.ga_bench.specs.Input.{IsReadBy}

-- the save file for the session that a job's input opens, with the nodes that a text names, or with
-- those of the program if there is none
abbrev pub IsSaved : Job → Loading → Option (List ℕ) → List ℕ → List ℕ → Type 0
IsSaved job loading names input text =
    (live : LiveView) × IsReadBy (file_of job) (IsSession loading) input (Ok live)
    × (saved_for live names ≡ Ok text)
