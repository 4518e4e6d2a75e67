-- A text that names nodes: of each the three digits of its name, with commas between them. One of
-- routes has `/` between such texts.
use Rattle.std.specs.Prelude.{ℕ, ◌==◌, List, [], ◌∷◌, map, Vec, vec_items, Option, Some, None, option_map, if◌then◌else◌}
use Rattle.std.specs.List.{slice_split}
use Rattle.std.specs.Option.{option_and_then}
use Rattle.ga_place.specs.Node.{node_named}

-- a node in front of others
abbrev pub with_node : Option ℕ → Option (List ℕ) → Option (List ℕ)
with_node node nodes = option_and_then (λ n. option_map (λ ns. n ∷ ns) nodes) node

-- the nodes that a text names, if it is of that form
abbrev pub nodes_in : List ℕ → Option (List ℕ)
nodes_in (a ∷ b ∷ c ∷ []) = with_node (node_named (a ∷ b ∷ c ∷ [])) (Some [])
nodes_in (a ∷ b ∷ c ∷ d ∷ rest) =
    if d == 44 then with_node (node_named (a ∷ b ∷ c ∷ [])) (nodes_in rest) else None
nodes_in text = None

-- the nodes of each route, by their names
abbrev pub lists_in : {A : Type 0} → List (Vec ℕ A) → List (List ℕ)
lists_in routes = map vec_items routes

-- the nodes that each of these texts names, if all are of that form
abbrev pub all_nodes_in : List (List ℕ) → Option (List (List ℕ))
all_nodes_in [] = Some []
all_nodes_in (text ∷ texts) =
    option_and_then (λ nodes. option_map (λ others. nodes ∷ others) (all_nodes_in texts))
    (nodes_in text)

-- the nodes of each route that a text names, with `/` between routes
abbrev pub routes_in : List ℕ → Option (List (List ℕ))
routes_in text = all_nodes_in (slice_split (λ c. c == 47) text)
