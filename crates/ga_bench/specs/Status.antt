-- What the exit status of a command line means.
use Rattle.std.specs.Prelude.{◌≡◌, ◌≢◌, ◌≤◌, ◌↔◌, ℕ, List, Option, Result}
use Rattle.clap.specs.Words.{kind_of}
use Rattle.clap.specs.declared.error.kind.ErrorKind.TheVariants.{DisplayHelp, DisplayVersion}
use Rattle.ga_command_line.specs.declared.command_line.LineError.{LineError}
use Rattle.ga_command_line.specs.declared.command_line.LineError.TheVariants.{Parse, Memory}
use Rattle.ga_jobs.specs.declared.Job.{Job}
use Rattle.ga_jobs.specs.declared.engine.Ending.{Ending}
use Rattle.ga_input.specs.declared.fault.ServeError.{ServeError}
use Rattle.ga_jobs.specs.Engine.{Serves, status_of}

-- The status of a wrong line is 2, and no other has it; it is 0 or 1 for help and the version, and
-- 3 when out of memory.
abbrev pub IsStatusOf : LineError → ℕ → Type 0
IsStatusOf (Parse error) status =
    ((status ≡ 2) ↔ ((kind_of error ≢ DisplayHelp) × (kind_of error ≢ DisplayVersion)))
    × (status ≤ 2)
IsStatusOf Memory status = status ≡ 3

-- that of some answer to a job: 0, 1 or 3
abbrev pub HasStatus : ℕ → Type 0
HasStatus status = (answer : Result Ending ServeError) × (status ≡ status_of answer)

-- A job was served, for an input and the bytes that a writer holds, old and new, and the status is
-- that of the answer.
abbrev pub HasServed : Job → List ℕ → Option (List ℕ) → Option (List ℕ) → ℕ → Type 0
HasServed job input old new status =
    (answer : Result Ending ServeError) × Serves job input old new answer
    × (status ≡ status_of answer)
