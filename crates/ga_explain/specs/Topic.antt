-- A name, and what it means.
use Rattle.std.specs.Prelude.{ℕ, List}
use Rattle.ga_explain.specs.declared.topic.Topic.{Topic}

-- a name, its meaning in one line, and its text
abbrev pub Entry : Type 0
Entry = List ℕ × List ℕ × List ℕ

-- a topic as its name, its meaning and its text
abbrev pub entry_of : Topic → Entry
entry_of topic = (topic.name.now, topic.meaning.now, topic.text.now)
