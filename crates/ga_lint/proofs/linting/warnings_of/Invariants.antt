use Rattle.std.proofs.Common.{◌≡◌, ◌++◌, drop}
use Rattle.ga_lint.specs.Linting.{warnings_from}
use Rattle.ga_lint.proofs.linting.warnings_of.Given as goal

-- those that are found, and those about the images that are left
abbrev pub invariant-loop-section : goal.invariant-loop-section
invariant-loop-section l =
    l.warnings.items ++ warnings_from l.program l.section (drop l.section l.images.entries)
    ≡ warnings_from l.program 0 l.images.entries
