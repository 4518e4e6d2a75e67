-- What a run does to its writer, and the exit status of the program.
use Rattle.std.specs.Prelude.{◌≡◌, ◌⊎◌, List, ℕ, true, Option, Result, Ok, Err}
use Rattle.std.specs.Io.KnownBytes.{Appends, Keeps}
use Rattle.ga_jobs.specs.declared.Job.{Job}
use Rattle.ga_jobs.specs.declared.engine.Ending.{Ending}
use Rattle.ga_jobs.specs.declared.engine.Ending.TheVariants as ending
use Rattle.ga_input.specs.declared.fault.ServeError.{ServeError}
use Rattle.ga_input.specs.declared.fault.ServeError.TheVariants.{Read, Write, Memory}
use Rattle.ga_jobs.specs.{writes_pieces}
use Rattle.ga_jobs.specs.Answering.{IsOutput}
use Rattle.ga_input.specs.Larger.{IsOfFile}
use Rattle.ga_jobs.specs.Outputs.{ending_of}
use Rattle.ga_input.specs.Writing.{AppendsPart}

-- a prefix of an output was appended
abbrev pub WritesPart : (Result (List ℕ) ServeError → Type 0) → Option (List ℕ) → Option (List ℕ)
    → Type 0
WritesPart Is old new = (text : List ℕ) × Is (Ok text) × AppendsPart old new text

-- What an answer means for the writer's bytes, old and new, if outputs are those of a relation.
-- Without a fault an output was appended, and nothing else, and the answer says how it ended. If a
-- write failed, a prefix of one was appended; if memory ran out, nothing, or a prefix of one that
-- is written in pieces. Otherwise nothing was written, and a fault of the input is one that the
-- relation has.
abbrev pub WritesAnswer : (Result (List ℕ) ServeError → Type 0) → Job → Option (List ℕ)
    → Option (List ℕ) → Result Ending ServeError → Type 0
WritesAnswer Is job old new (Ok ended) =
    (text : List ℕ) × Is (Ok text) × Appends old new text × (ended ≡ ending_of job text)
WritesAnswer Is job old new (Err Write) = WritesPart Is old new
WritesAnswer Is job old new (Err Read) = Keeps old new
WritesAnswer Is job old new (Err Memory) =
    Keeps old new ⊎ ((writes_pieces job ≡ true) × WritesPart Is old new)
WritesAnswer Is job old new (Err fault) = Is (Err fault) × Keeps old new

-- for an input of standard input
abbrev pub Serves : Job → List ℕ → Option (List ℕ) → Option (List ℕ) → Result Ending ServeError
    → Type 0
Serves job input old new answer = WritesAnswer (IsOutput job input) job old new answer

-- for the bytes of a file
abbrev pub ServesFile : Job → List ℕ → Option (List ℕ) → Option (List ℕ) → Result Ending ServeError
    → Type 0
ServesFile job input old new answer =
    WritesAnswer (IsOfFile (IsOutput job) input) job old new answer

-- 3 when out of memory, 1 for a race, for warnings that are denied, for expectations that aren't
-- met, and for every other fault
abbrev pub status_of : Result Ending ServeError → ℕ
status_of (Ok ending.Done) = 0
status_of (Ok ending.Race) = 1
status_of (Ok ending.Denied) = 1
status_of (Ok (ending.Failed unmet)) = 1
status_of (Err Memory) = 3
status_of (Err fault) = 1
