-- For whom nodes wait, as a list, and the names of nodes as text.
use Rattle.std.specs.Prelude.{ℕ, List, ◌∷◌, Option, None, slice_index_or}
use Rattle.std.specs.List.{flat_map}
use Rattle.ga_place.specs.Cell.{index_of}
use Rattle.ga_place.specs.Node.{node_text}

-- the node for which a node waits, by a list that has it for each node in order of name
abbrev pub next_in : List (Option ℕ) → ℕ → Option ℕ
next_in nexts name = slice_index_or nexts (index_of name) None

-- names, each behind a blank
abbrev pub names_text : List ℕ → List ℕ
names_text names = flat_map (λ name. 32 ∷ node_text name) names
