-- The numbers of the cells that a node writes.
use Rattle.std.specs.Prelude.{ℕ, List, [], ◌∷◌, codes, if◌then◌else◌}
use Rattle.std.specs.List.{concat, flat_map}
use Rattle.std.specs.Fmt.{decimal}
use Rattle.ga_place.specs.Node.{node_text}
use Rattle.ga_place.specs.Side.{SIDES, has_side}
use Rattle.ga_place.specs.declared.side.Side.{Side}
use Rattle.ga_chip.specs.declared.ledger.Ledger.{Ledger}
use Rattle.ga_chip.specs.Chip.{Chip}
use Rattle.ga_chip.specs.Ledger.{ledger_of}
use Rattle.ga_dump.specs.Side.{side_text}

-- a line with a node, a side, and how many words were written, were read and are pending there
unfoldable pub ledger_line : ℕ → Side → Ledger → List ℕ
ledger_line name side ledger =
    concat (node_text name ∷ codes " " ∷ side_text side
    ∷ codes " written " ∷ decimal ledger.written
    ∷ codes " read " ∷ decimal ledger.read
    ∷ codes " pending " ∷ decimal ledger.pending ∷ codes "\n" ∷ [])

-- the line of a side, which only a side with a neighbour has
unfoldable pub side_line : Chip → ℕ → Side → List ℕ
side_line chip name side =
    if has_side name side then ledger_line name side (ledger_of chip name side) else []

-- a line for each side at which the node has a neighbour, in the order right, down, left, up
unfoldable pub ledger_dump : Chip → ℕ → List ℕ
ledger_dump chip name = flat_map (side_line chip name) SIDES
