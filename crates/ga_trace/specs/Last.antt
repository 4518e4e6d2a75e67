-- The last step of a node.
use Rattle.std.specs.Prelude.{ℕ, ◌==◌, List, [], ◌∷◌, Option, Some, if◌then◌else◌}
use Rattle.ga_observe.specs.declared.step.Step.{Step}

-- the last step of a node among some steps, or else the one found before them
abbrev pub last_by : ℕ → Option Step → List Step → Option Step
last_by node found [] = found
last_by node found (step ∷ steps) =
    last_by node (if step.node == node then Some step else found) steps
