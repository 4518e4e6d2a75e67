use Rattle.std.specs.Prelude.{◌≡◌, drop}
use Rattle.ga_chip.specs.Run.{ran, tries_of}
use Rattle.ga_chip.proofs.chip.Chip.run.Given as goal

-- the tries that are left lead to the end
abbrev pub invariant-loop-what : goal.invariant-loop-what
invariant-loop-what l =
    ran l.self (tries_of (drop l.what-index l.fn.tries)) ≡ ran l.fn.self (tries_of l.fn.tries)
