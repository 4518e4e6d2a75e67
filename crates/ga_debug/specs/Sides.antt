-- The neighbours of a node, and what lies at its ports.
use Rattle.std.specs.Prelude.{ℕ, ◌+◌, ◌==◌, List, [], ◌∷◌, ◌++◌, codes, if◌then◌else◌}
use Rattle.std.specs.List.{flat_map}
use Rattle.std.specs.Option.{option_map_or}
use Rattle.ga_place.specs.Node.{node_text}
use Rattle.ga_place.specs.Side.{SIDES, neighbour_of}
use Rattle.ga_place.specs.declared.side.Side.{Side}
use Rattle.ga_chip.specs.Chip.{Chip}
use Rattle.ga_dump.specs.Side.{side_text}
use Rattle.ga_trace.specs.What.{value_of, value_text}
use Rattle.ga_trace.specs.declared.what.What.TheVariants.{Pending}

-- where a neighbour lies: a name is its row and, in two digits, its column; rows are counted from
-- the south, and columns from the west
abbrev pub compass : ℕ → ℕ → List ℕ
compass name other =
    if other == name + 1 then codes "east" else if other == name + 100 then codes "north"
    else if name == other + 1 then codes "west" else codes "south"

-- a side and the neighbour there
abbrev pub end_text : ℕ → Side → ℕ → List ℕ
end_text name side other =
    side_text side ++ 32 ∷ (node_text other ++ 32 ∷ compass name other)

-- the word that a node has posted at a side
abbrev pub posted_text : Chip → ℕ → Side → List ℕ
posted_text chip name side =
    codes "  from " ++ node_text name ++ 32 ∷ value_text (value_of (Pending side) name chip)

-- both, of the node and of its neighbour
abbrev pub side_line : Chip → ℕ → Side → ℕ → List ℕ
side_line chip name side other =
    end_text name side other ++ posted_text chip name side ++ posted_text chip other side
    ++ codes "\n"

abbrev pub side_lines : Chip → ℕ → Side → List ℕ
side_lines chip name side = option_map_or (side_line chip name side) (neighbour_of name side) []

unfoldable pub sides_text : Chip → ℕ → List ℕ
sides_text chip name = flat_map (side_lines chip name) SIDES
