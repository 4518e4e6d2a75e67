-- What the program may answer to the bytes of an input: a text, or the first fault.
use Rattle.std.specs.Prelude.{◌≡◌, ◌&&◌, ℕ, Bool, List, length, nat_lt, MatchBool, Result, Err}
use Rattle.ga_asm.specs.Text.{AtMostOne}
use Rattle.ga_jobs.specs.declared.Job.{Job}
use Rattle.ga_jobs.specs.declared.Job.TheVariants.{Counts, Expand, Lint, Map, Profile, Race, Report, Run, Talk, Trace}
use Rattle.ga_input.specs.declared.fault.ServeError.{ServeError}
use Rattle.ga_input.specs.declared.fault.ServeError.TheVariants.{Input}
use Rattle.ga_input.specs.declared.fault.InputFault.TheVariants.{TooLong}
use Rattle.ga_jobs.specs.{IsJobOutput, reads_input}
use Rattle.ga_input.specs.Reading.{INPUT_LIMIT}
use Rattle.ga_programs.specs.Run.{HasRuns}

-- more bytes are too long for a job that reads them
abbrev pub is_too_long : Job → List ℕ → Bool
is_too_long job input = reads_input job && nat_lt INPUT_LIMIT (length input)

-- what the program may answer to an input
abbrev pub IsOutput : Job → List ℕ → Result (List ℕ) ServeError → Type 0
IsOutput job input answer =
    MatchBool (is_too_long job input) (answer ≡ Err (Input TooLong)) (IsJobOutput job input answer)

-- Two answers of a job to one input are equal, except for the job `run`, since the order of its
-- tries is free: two answers of it are both texts or equal, and those of a single worker are equal.
abbrev pub HasOneOutput : Job → List ℕ → Type 0
HasOneOutput (Run route workers turns file) input =
    HasRuns workers (IsOutput (Run route workers turns file) input)
-- the text of `race` behind its first words is free
HasOneOutput (Race loading turns witness file) input = Unit {0}
-- the faults of a session that is opened aren't compared
HasOneOutput (Talk loading file any) input = Unit {0}
-- the lines of an expansion are free, and warnings are those about one
HasOneOutput (Expand file) input = Unit {0}
HasOneOutput (Lint deny json file) input = Unit {0}
HasOneOutput (Map loading turns file) input = Unit {0}
HasOneOutput (Profile loading start json turns file) input = Unit {0}
HasOneOutput (Trace loading turns nodes save file) input = Unit {0}
HasOneOutput (Counts loading turns file) input = Unit {0}
HasOneOutput (Report loading start turns file) input = Unit {0}
HasOneOutput job input = AtMostOne (IsOutput job input)
