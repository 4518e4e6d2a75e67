-- The topic of `explain`.
use Rattle.std.specs.Prelude.{◌≡◌, List, codes, IfSome, Option, Some, option_map}
use Rattle.clap.specs.Words.{Row, first_of}
use Rattle.ga_explain.specs.declared.topic.Topic.{Topic}
use Rattle.ga_explain.specs.Output.{entry_in}
use Rattle.ga_explain.specs.Table.{entries}
use Rattle.ga_explain.specs.Topic.{entry_of}

-- the argument is the topic's name; without a topic it is left out
abbrev pub IsTopicAt : List Row → Option Topic → Type 0
IsTopicAt rows topic = option_map (λ named. named.name.now) topic ≡ first_of (codes "NAME") rows

-- a topic is that of the table with its name
abbrev pub IsOfTable : Option Topic → Type 0
IsOfTable topic = IfSome topic (λ named. entry_in entries named.name.now ≡ Some (entry_of named))
