-- The ports of a node: what it shares with its neighbour at each side.
use Rattle.std.specs.Prelude.{◌≡◌, ◌<◌, ℕ, [], ◌∷◌, get_or, Option, Some, None, option_map}
use Rattle.ga_place.specs.Cell.{cell_of, index_of, read_cell}
use Rattle.ga_place.specs.Side.{neighbour_of}
use Rattle.ga_place.specs.declared.side.Side.{Side}
use Rattle.ga_place.specs.declared.side.Side.TheVariants.{Right, Down, Left, Up}
use Rattle.ga_chip.specs.declared.port.Port.{Port}
use Rattle.ga_chip.specs.declared.port.Ports.{Ports}

-- a port of a cell that is read, one that is written, and the neighbour
abbrev pub port_with : Option ℕ → Option ℕ → Option ℕ → Option Port
port_with (Some neighbour) (Some reads) (Some writes) =
    Some (record { reads = reads; writes = writes; neighbour = index_of neighbour })
port_with (Some neighbour) (Some reads) None = None
port_with (Some neighbour) None writes = None
port_with None reads writes = None

-- the port of a node at a side
abbrev pub port_of : ℕ → Side → Option Port
port_of name side = port_with (neighbour_of name side) (read_cell name side) (cell_of name side)

-- the ports of a node
unfoldable pub ports_of : ℕ → Ports
ports_of name =
    record {
      by_side = port_of name Right ∷ port_of name Down ∷ port_of name Left ∷ port_of name Up
          ∷ [];
    }

-- the number of a side, in the order in which a node keeps its ports
abbrev pub number_of : Side → ℕ
number_of Right = 0
number_of Down = 1
number_of Left = 2
number_of Up = 3

abbrev pub port_at : Side → Ports → Option Port
port_at side ports = get_or ports.by_side (number_of side) None

-- they are what the node shares with its neighbours
pub record FitsPorts (name : ℕ) (ports : Ports) : Type 0 where
  pub reads : (side : Side)
      → option_map (λ port. port.reads) (port_at side ports) ≡ read_cell name side
  pub writes : (side : Side)
      → option_map (λ port. port.writes) (port_at side ports) ≡ cell_of name side
  pub neighbours : (side : Side) → option_map (λ port. port.neighbour) (port_at side ports)
      ≡ option_map index_of (neighbour_of name side)
  pub places : (side : Side) (port : Port) → port_at side ports ≡ Some port → port.neighbour < 144
