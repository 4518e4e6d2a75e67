use Rattle.std.proofs.Common.{◌≡◌, ◌++◌, drop, string_bytes}
use Rattle.ga_views.specs.Witness.{try_lines}
use Rattle.ga_views.proofs.witness.push_way.Given as goal

-- what is written, and the lines of the tries that are left
abbrev pub invariant-loop-step : goal.invariant-loop-step
invariant-loop-step l =
    string_bytes l.text ++ try_lines (drop l.step-index l.way)
    ≡ string_bytes l.initial.text ++ try_lines l.way
