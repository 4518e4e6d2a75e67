use Rattle.std.proofs.Common.{◌≡◌, ◌++◌, drop}
use Rattle.ga_faults.specs.Sections.{sections_at}
use Rattle.ga_faults.proofs.sections.sections_at.Given as goal

-- the sections so far, and those that are left
abbrev pub invariant-loop-index : goal.invariant-loop-index
invariant-loop-index l =
    l.sections.items ++ sections_at (drop l.index l.starts) ≡ sections_at l.starts
