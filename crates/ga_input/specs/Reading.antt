-- What is read of an input.
use Rattle.std.specs.Prelude.{ℕ, ◌<◌, Bool, List, length, Option, Result, Err, IfSome}
use Rattle.std.specs.Io.KnownBytes.{IsAtEnd}
use Rattle.ga_input.specs.declared.fault.ServeError.{ServeError}
use Rattle.ga_input.specs.declared.fault.ServeError.TheVariants.{Input, Read, Memory}
use Rattle.ga_input.specs.declared.fault.InputFault.TheVariants.{TooLong}
use Rattle.ga_input.specs.declared.reads.Reads.{Reads}

-- the most bytes that an input may have
abbrev pub INPUT_LIMIT : ℕ
INPUT_LIMIT = 1048576

-- An input that was answered, or refused for its content, was read to its end, and so was one whose
-- output could not be written.
abbrev pub ReadsToEnd : {Done : Type 0} → Result Done ServeError → Option (List ℕ) → Type 0
ReadsToEnd (Err (Input TooLong)) left = Unit {0}
ReadsToEnd (Err Read) left = Unit {0}
ReadsToEnd (Err Memory) left = Unit {0}
ReadsToEnd answer left = IsAtEnd left

-- Why an input was not read: a read failed, memory ran out, or it has more bytes than it may.
abbrev pub ReadFails : Option (List ℕ) → ServeError → Type 0
ReadFails old (Input TooLong) = IfSome old (λ input. INPUT_LIMIT < length input)
ReadFails old Read = Unit {0}
ReadFails old Memory = Unit {0}
ReadFails old fault = ⊥

-- how many calls of `read` were made, and whether one failed that was not interrupted
abbrev pub calls_of : Reads → ℕ
calls_of reads = reads.calls

abbrev pub has_failed : Reads → Bool
has_failed reads = reads.has_failed
