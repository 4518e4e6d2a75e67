use Rattle.std.proofs.Common.{◌≡◌, take}
use Rattle.ga_replays.specs.Sourced.{number_of}
use Rattle.ga_replays.proofs.sourced.number_of.Given as goal

-- the number that the digits so far write
abbrev pub invariant-loop-digit : goal.invariant-loop-digit
invariant-loop-digit l = l.number ≡ number_of (take l.digit-index l.digits)
