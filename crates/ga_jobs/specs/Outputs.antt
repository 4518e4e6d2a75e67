-- What a job writes, and what writing it does to a writer's bytes.
use Rattle.std.specs.Prelude.{◌≡◌, ℕ, Bool, true, false, List, codes, nat_eq, Option, Some, None, Result, Ok, Err, string_bytes, if◌then◌else◌}
use Rattle.std.specs.List.{starts_with}
use Rattle.std.specs.Io.KnownBytes.{Appends}
use Rattle.ga_word.specs.Text.{is_empty}
use Rattle.ga_jobs.specs.declared.Job.{Job}
use Rattle.ga_jobs.specs.declared.Job.TheVariants as job
use Rattle.ga_jobs.specs.declared.engine.Ending.{Ending}
use Rattle.ga_jobs.specs.declared.engine.Ending.TheVariants as ending
use Rattle.ga_input.specs.declared.fault.ServeError.{ServeError}
use Rattle.ga_input.specs.declared.fault.ServeError.TheVariants.{Write, Memory}
use Rattle.ga_jobs.specs.declared.outputs.Output.{Output}
use Rattle.ga_jobs.specs.declared.outputs.Output.TheVariants as output
use Rattle.ga_jobs.specs.{writes_pieces}
use Rattle.ga_input.specs.Writing.{AppendsPart}
use Rattle.ga_transcript.specs.Unmet.{unmet_in, unmet_of}
use Rattle.ga_transcript.specs.declared.unmet.Unmet.{Unmet}
use Rattle.ga_views.specs.TraceJob as trace

-- its text
abbrev pub text_of : Output → List ℕ
text_of (output.Text text) = string_bytes text
text_of (output.Waveform made) = trace.text_of made

-- it is written in pieces, as it is made
abbrev pub in_pieces : Output → Bool
in_pieces (output.Text text) = false
in_pieces (output.Waveform made) = true

abbrev pub failed_or_done : Option Unmet → Ending
failed_or_done (Some unmet) = ending.Failed unmet
failed_or_done None = ending.Done

-- how a job ended, by the text that it wrote: a race is each text of `race` but for those without
-- one, warnings are all texts of `lint` but the empty one, and a recording has its replies
abbrev pub ending_of : Job → List ℕ → Ending
ending_of (job.Race loading turns witness file) text =
    if starts_with nat_eq text (codes "no race") then ending.Done else ending.Race
ending_of (job.Lint true json file) text = if is_empty text then ending.Done else ending.Denied
ending_of (job.Record file any) text = failed_or_done (unmet_of (unmet_in text))
ending_of job text = ending.Done

-- A text was written, and how the job ended; or a prefix of it, since a write failed, or memory ran
-- out while it was made.
abbrev pub WritesText : Job → List ℕ → Option (List ℕ) → Option (List ℕ)
    → Result Ending ServeError → Type 0
WritesText job text old new (Ok ended) = Appends old new text × (ended ≡ ending_of job text)
WritesText job text old new (Err Write) = AppendsPart old new text
WritesText job text old new (Err Memory) =
    (writes_pieces job ≡ true) × AppendsPart old new text
WritesText job text old new (Err fault) = ⊥
