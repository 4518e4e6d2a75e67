use Rattle.std.proofs.Common.{◌≡◌, ◌++◌, drop, string_bytes}
use Rattle.ga_views.specs.RaceText.{names_text}
use Rattle.ga_views.proofs.race_text.push_names.Given as goal

-- what is written, and the names of the nodes that are left
abbrev pub invariant-loop-node : goal.invariant-loop-node
invariant-loop-node l =
    string_bytes l.text ++ names_text (drop l.node-index l.nodes)
    ≡ string_bytes l.initial.text ++ names_text l.nodes
