use Rattle.std.proofs.Common.{◌≡◌, drop, map}
use Rattle.ga_explain.specs.Output.{entry_in}
use Rattle.ga_explain.specs.Topic.{entry_of}
use Rattle.ga_explain.proofs.topic.found.Given as goal

-- the search's answer is in the part that is left
abbrev pub invariant-loop-topic : goal.invariant-loop-topic
invariant-loop-topic l =
    entry_in (map entry_of (drop l.topic-index l.topics)) l.name
    ≡ entry_in (map entry_of l.topics) l.name
