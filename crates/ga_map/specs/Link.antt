-- What lies between two neighbours.
use Rattle.std.specs.Prelude.{ℕ, ◌%◌, ◌==◌, Bool, true, false, ◌||◌, not, List, codes, is_some, if◌then◌else◌}
use Rattle.std.specs.Option.{option_map_or}
use Rattle.ga_place.specs.Node.{column_of, row_of}
use Rattle.ga_place.specs.Side.{neighbour_of}
use Rattle.ga_place.specs.declared.side.Side.{Side}
use Rattle.ga_place.specs.declared.side.Side.TheVariants.{Right, Down, Left, Up}
use Rattle.ga_chip.specs.Chip.{Chip}
use Rattle.ga_chip.specs.Ledger.{ledger_of}
use Rattle.ga_map.specs.declared.link.Link.{Link}
use Rattle.ga_map.specs.declared.link.Link.TheVariants.{Unused, Used, Ahead, Back, Both}
use Rattle.ga_map.specs.Posted.{offered, posted}

-- a node has written words at a side, or its neighbour there has
abbrev pub has_written : Chip → ℕ → Side → Bool
has_written chip name side = not ((ledger_of chip name side).written == 0)

abbrev pub was_written : Chip → ℕ → Side → Bool
was_written chip name side =
    option_map_or (λ other. has_written chip other side) (neighbour_of name side) false

abbrev pub quiet : Chip → ℕ → Side → Link
quiet chip name side =
    if has_written chip name side || was_written chip name side then Used else Unused

-- by whether a word of the node is pending, and one of its neighbour
abbrev pub link_by : Bool → Bool → Link → Link
link_by true true rest = Both
link_by true false rest = Ahead
link_by false true rest = Back
link_by false false rest = rest

-- what lies between a node and its neighbour at a side
abbrev pub link_at : Chip → ℕ → Side → Link
link_at chip name side =
    link_by (is_some (posted chip name side)) (is_some (offered chip name side))
    (quiet chip name side)

-- to the east of the node, and to the south
abbrev pub east_text : Link → List ℕ
east_text Unused = codes " "
east_text Used = codes "-"
east_text Ahead = codes ">"
east_text Back = codes "<"
east_text Both = codes "X"

abbrev pub south_text : Link → List ℕ
south_text Unused = codes " "
south_text Used = codes "|"
south_text Ahead = codes "v"
south_text Back = codes "^"
south_text Both = codes "X"

-- the sides of a node that face there
abbrev pub east_side : ℕ → Side
east_side name = if column_of name % 2 == 0 then Right else Left

abbrev pub south_side : ℕ → Side
south_side name = if row_of name % 2 == 0 then Up else Down
