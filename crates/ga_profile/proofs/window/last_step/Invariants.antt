use Rattle.std.proofs.Common.{◌≡◌, drop}
use Rattle.std.specs.Prelude.{None}
use Rattle.ga_profile.specs.Window as spec
use Rattle.ga_profile.proofs.window.last_step.Given as goal

-- the nodes that are left lead to the answer
abbrev pub invariant-loop-turns : goal.invariant-loop-turns
invariant-loop-turns l =
    spec.last_step l.found (drop l.turns-index l.nodes) ≡ spec.last_step None l.nodes
