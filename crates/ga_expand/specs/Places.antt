-- The sides of a node by the place where it is: by directions and by neighbours.
use Rattle.std.specs.Prelude.{ℕ, List, [], ◌∷◌, codes, Option, Some, None, Result, Ok, Err}
use Rattle.std.specs.List.{find}
use Rattle.std.specs.Option.{option_and_then, option_map}
use Rattle.std.specs.Str.{bytes_eq}
use Rattle.ga_place.specs.Address.{port_address_of}
use Rattle.ga_place.specs.Node.{node_named}
use Rattle.ga_place.specs.Side.{Direction, East, North, South, West, next_node, side_to}
use Rattle.ga_place.specs.declared.side.Side.{Side}
use Rattle.ga_expand.specs.declared.error.ExpandErrorKind.{ExpandErrorKind}
use Rattle.ga_expand.specs.declared.error.ExpandErrorKind.TheVariants.{BadNode, NoNeighbour}

abbrev pub directions : List (List ℕ × Direction)
directions =
    (codes "north", North) ∷ (codes "east", East) ∷ (codes "south", South) ∷ (codes "west", West) ∷
    []

-- the direction that a token names
abbrev pub direction_named : List ℕ → Option Direction
direction_named text =
    option_map (λ entry. entry.1) (find (λ entry. bytes_eq text entry.0) directions)

-- the address of the port of a side, if there is one
abbrev pub port_of : Option Side → Result ℕ ExpandErrorKind
port_of None = Err NoNeighbour
port_of (Some side) = Ok (port_address_of side)

-- the port of a node towards another, if the two are neighbours
abbrev pub port_to : ℕ → Option ℕ → Result ℕ ExpandErrorKind
port_to node None = Err BadNode
port_to node (Some other) = port_of (side_to node other)

-- the port of a node in a direction, if the grid goes on there
abbrev pub port_towards : ℕ → Direction → Result ℕ ExpandErrorKind
port_towards node direction = port_of (option_and_then (side_to node) (next_node node direction))

-- the port of a node towards the one that a token names
abbrev pub port_named : ℕ → List ℕ → Result ℕ ExpandErrorKind
port_named node text = port_to node (node_named text)
