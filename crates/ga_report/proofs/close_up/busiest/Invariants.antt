use Rattle.std.proofs.Common.{◌≡◌, drop}
use Rattle.std.specs.Prelude.{None}
use Rattle.ga_report.specs.CloseUp as spec
use Rattle.ga_report.proofs.close_up.busiest.Given as goal

-- the passes that are left give the same
abbrev pub invariant-loop-pass : goal.invariant-loop-pass
invariant-loop-pass l =
    spec.busiest l.found (drop l.pass-index l.passes) ≡ spec.busiest None l.passes
