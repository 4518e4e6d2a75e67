use Rattle.std.proofs.Common.{◌≡◌, ◌++◌, drop, map, string_bytes}
use Rattle.std.specs.Prelude.{flat_map}
use Rattle.ga_explain.specs.Output.{name_line}
use Rattle.ga_explain.specs.Topic.{entry_of}
use Rattle.ga_explain.proofs.output.push_names.Given as goal

-- the text so far, and the names that are left, make the whole output
abbrev pub invariant-loop-topic : goal.invariant-loop-topic
invariant-loop-topic l =
    string_bytes l.text ++ flat_map name_line (map entry_of (drop l.topic-index l.topics))
    ≡ string_bytes l.initial.text ++ flat_map name_line (map entry_of l.topics)
