-- Source lines that are gathered.
use Rattle.std.proofs.Common.{ℕ, List, ◌++◌, Result, Ok, Err}
use Rattle.ga_debug.specs.Head.{Head}
use Rattle.ga_debug.specs.declared.replay_error.ReplayError.{ReplayError}

-- a head, with source lines that were read before it
abbrev pub in_front : List ℕ → Result Head ReplayError → Result Head ReplayError
in_front front (Ok head) = Ok (record head { source = front ++ head.source })
in_front front (Err fault) = Err fault
