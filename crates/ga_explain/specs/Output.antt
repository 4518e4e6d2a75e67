-- What is looked up, and what is written.
use Rattle.std.specs.Prelude.{◌∷◌, ◌++◌, [], ℕ, List, Option, Some, None, bytes_eq, find, flat_map}
use Rattle.std.specs.Option.{option_map_or}
use Rattle.ga_explain.specs.declared.topic.Topic.{Topic}
use Rattle.ga_explain.specs.Table.{entries}
use Rattle.ga_explain.specs.Topic.{Entry}

-- the first entry of a list with this name
abbrev pub entry_in : List Entry → List ℕ → Option Entry
entry_in list name = find (λ entry. bytes_eq entry.0 name) list

-- the meaning of a name in one line; that of an unknown name is empty
unfoldable pub meaning_of : List ℕ → List ℕ
meaning_of name = option_map_or (λ entry. entry.1) (entry_in entries name) []

-- the line of an entry's name
abbrev pub name_line : Entry → List ℕ
name_line entry = entry.0 ++ 10 ∷ []

-- the text of a topic; without one the names of all
abbrev pub explain_output : Option Topic → List ℕ
explain_output (Some topic) = topic.text.now
explain_output None = flat_map name_line entries
