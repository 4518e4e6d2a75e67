-- Words that no node will ever read.
use Rattle.std.specs.Prelude.{ℕ, ◌==◌, Bool, false, ◌&&◌, ◌||◌, not, Option, List, [], ◌∷◌, codes, length, if◌then◌else◌}
use Rattle.std.specs.List.{concat, flat_map, range_with_len}
use Rattle.std.specs.Option.{option_map_or}
use Rattle.ga_place.specs.Cell.{name_at}
use Rattle.ga_place.specs.Node.{node_text}
use Rattle.ga_place.specs.Side.{has_side}
use Rattle.ga_node.specs.Need.{need_of}
use Rattle.ga_node.specs.declared.need.Need.{Need}
use Rattle.ga_node.specs.declared.need.Need.TheVariants as need
use Rattle.ga_chip.specs.Chip.{Chip, state_of}
use Rattle.ga_chip.specs.Run.{stands_held}
use Rattle.ga_chip.specs.Stuck.{is_unread}
use Rattle.ga_waits.specs.Closed.{stuck_in}
use Rattle.ga_trace.specs.Rest.{spins}

-- A stuck node makes no step any more. One that spins goes round by own steps, which read no port.
abbrev pub never_reads : Chip → ℕ → Bool
never_reads chip name = stuck_in chip name || spins chip name

-- A node waits for good for its word to be read, by its need: it posts the word at a side without a
-- neighbour; or the word is pending, and the neighbour that could read it never reads.
abbrev pub waits_unread : (ℕ → Bool) → List (Option ℕ) → ℕ → Need → Bool
waits_unread rests cells name (need.Post side word) = not (has_side name side)
waits_unread rests cells name (need.Check side) = is_unread rests cells name side
waits_unread rests cells name other = false

-- and it isn't held
abbrev pub has_unread : Chip → ℕ → Bool
has_unread chip name =
    not (stands_held chip name)
    && option_map_or (λ state. waits_unread (never_reads chip) chip.cells name (need_of state))
    (state_of chip name) false

abbrev pub if_unread : Chip → ℕ → List ℕ
if_unread chip name = if has_unread chip name then name ∷ [] else []

-- The nodes that wait for good for their words to be read, in order of name.
unfoldable pub unread_nodes : Chip → List ℕ
unread_nodes chip = flat_map (λ index. if_unread chip (name_at index)) (range_with_len 0 144)

-- their names in a line, if there are any
abbrev pub names_text : List ℕ → List ℕ
names_text nodes = flat_map (λ name. 32 ∷ node_text name) nodes

unfoldable pub stuck_text : List ℕ → List ℕ
stuck_text nodes =
    concat (codes "Stuck, since no node reads its word:" ∷ names_text nodes ∷ codes ".\n" ∷ [])

abbrev pub unread_text : List ℕ → List ℕ
unread_text nodes = if length nodes == 0 then [] else stuck_text nodes
