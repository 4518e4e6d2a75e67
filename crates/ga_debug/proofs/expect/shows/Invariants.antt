use Rattle.std.proofs.Common.{◌≡◌, drop}
use Rattle.ga_debug.specs.Expect.{shows}
use Rattle.ga_debug.proofs.expect.shows.Given as goal

-- it rests with the values that are left
abbrev pub invariant-loop-value : goal.invariant-loop-value
invariant-loop-value l =
    shows l.node l.here (drop l.value-index l.values) l.chip
    ≡ shows l.node l.initial.here l.values l.chip
