-- Rings of nodes, each of which waits for the next.
use Rattle.std.specs.Prelude.{◌≡◌, ◌≢◌, ◌<◌, ◌≤◌, ℕ, zero, suc, ◌==◌, nat_lt, Bool, true, false, List, [], ◌∷◌, ◌++◌, All, AllPairs, codes, drop, length, map, slice_index, take, Option, Some, None, if◌then◌else◌}
use Rattle.std.specs.List.{flat_map, range_with_len}
use Rattle.std.specs.Option.{option_and_then}
use Rattle.ga_place.specs.Cell.{cell_of, name_at, read_cell}
use Rattle.ga_place.specs.Node.{node_text}
use Rattle.ga_place.specs.Side.{neighbour_of, one_side}
use Rattle.ga_node.specs.Need.{need_of}
use Rattle.ga_node.specs.State.{State}
use Rattle.ga_node.specs.declared.need.Need.{Need}
use Rattle.ga_node.specs.declared.need.Need.TheVariants.{Own, Take, Post, Check, Input, Stopped}
use Rattle.ga_chip.specs.Chip.{Chip, state_of}
use Rattle.ga_chip.specs.Run.{stands_held}
use Rattle.ga_chip.specs.Stuck.{is_full}

-- the one neighbour for which a node waits that isn't held: a take of one side waits as long as no
-- word is pending, and a check as long as its word is
abbrev pub awaits : List (Option ℕ) → ℕ → Need → Option ℕ
awaits cells name (Take sides) =
    option_and_then (λ side. if is_full cells (read_cell name side) then None
    else neighbour_of name side) (one_side sides)
awaits cells name (Check side) =
    if is_full cells (cell_of name side) then neighbour_of name side else None
awaits cells name Own = None
awaits cells name (Post side word) = None
awaits cells name Input = None
awaits cells name (Stopped stop) = None

abbrev pub awaits_in : Bool → List (Option ℕ) → ℕ → Option State → Option ℕ
awaits_in true cells name state = None
awaits_in false cells name (Some state) = awaits cells name (need_of state)
awaits_in false cells name None = None

-- the node for which a node waits, if it waits for only one; a held node waits for nobody
unfoldable pub next_of : Chip → ℕ → Option ℕ
next_of chip name = awaits_in (stands_held chip name) chip.cells name (state_of chip name)

-- A ring: a row of nodes, written from its least name on, in which none occurs twice, each waits
-- for the next, and the last for the first.
pub record IsRing (next : ℕ → Option ℕ) (row : List ℕ) : Type 0 where
  pub some : 0 < length row
  pub least : All (λ name. slice_index row 0 ≤ name) row
  pub distinct : AllPairs (λ one other. one ≢ other) row
  -- in the row a, b, c: a waits for b, b for c, and c for a
  pub waits : map next row ≡ map Some (drop 1 row ++ take 1 row)

-- ---- how rings are found: from each node on, by the nodes that each wait for the next

-- Whether these come back to the first, with no lesser name on the way, within `fuel` names.
abbrev pub comes_back : (ℕ → Option ℕ) → ℕ → ℕ → Option ℕ → Bool
comes_back next first fuel None = false
comes_back next first zero (Some name) = false
comes_back next first (suc fuel) (Some name) =
    if name == first then true
    else if nat_lt name first then false else comes_back next first fuel (next name)

-- their names, up to the first
abbrev pub names_behind : (ℕ → Option ℕ) → ℕ → ℕ → Option ℕ → List ℕ
names_behind next first fuel None = []
names_behind next first zero (Some name) = []
names_behind next first (suc fuel) (Some name) =
    if name == first then [] else name ∷ names_behind next first fuel (next name)

-- No row has more names than there are nodes.
unfoldable pub begins_ring : (ℕ → Option ℕ) → ℕ → Bool
begins_ring next first = comes_back next first 144 (next first)

unfoldable pub row_behind : (ℕ → Option ℕ) → ℕ → List ℕ
row_behind next first = names_behind next first 144 (next first)

-- the ring that begins at a node, if one does
abbrev pub ring_at : (ℕ → Option ℕ) → ℕ → List (List ℕ)
ring_at next first = if begins_ring next first then (first ∷ row_behind next first) ∷ [] else []

-- all rings
unfoldable pub rings_of : (ℕ → Option ℕ) → List (List ℕ)
rings_of next = flat_map (λ index. ring_at next (name_at index)) (range_with_len 0 144)

-- ---- how they are written

-- the names of a ring, each behind a blank
unfoldable pub ring_line : List ℕ → List ℕ
ring_line row = codes "ring" ++ flat_map (λ name. 32 ∷ node_text name) row
