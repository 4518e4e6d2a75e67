use Rattle.std.proofs.Common.{◌≡◌, drop}
use Rattle.std.specs.Prelude.{None}
use Rattle.ga_profile.specs.Window as spec
use Rattle.ga_profile.proofs.window.first_began.Given as goal

-- the nodes that are left lead to the answer
abbrev pub invariant-loop-turns : goal.invariant-loop-turns
invariant-loop-turns l =
    spec.first_began l.found (drop l.turns-index l.nodes) ≡ spec.first_began None l.nodes
