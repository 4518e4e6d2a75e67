-- Where the rounds of an `unext` begin is left to the packing of the items.
use Rattle.std.specs.Prelude.{◌&&◌, ℕ, suc, Bool, false, not, List, Option, Some}
use Rattle.std.specs.List.{slice_get}
use Rattle.std.specs.Option.{option_map_or}
use Rattle.ga_disasm.specs.Disassembling.{ItemView, Code}
use Rattle.ga_lint.specs.NodeView.{NodeView, first_item, is_loose_at}
use Rattle.ga_lint.specs.UnextRepeats.{has_unext}
use Rattle.ga_pack.specs.Model.Layout.{is_loose, op_of}
use Rattle.ga_pack.specs.Model.Source.{Item}
use Rattle.ga_word.specs.Op.{ends_word}

abbrev pub has_unext_in : ItemView → Bool
has_unext_in (Code reading) = has_unext reading.ops
has_unext_in item = false

-- another item outside brackets may join the word of such an item, if it has room there
abbrev pub leaves_room : Item → Bool
leaves_room i = is_loose i && not (ends_word (op_of i))

abbrev pub leaves_room_at : List Item → ℕ → Bool
leaves_room_at items at = option_map_or leaves_room (slice_get items at) false

-- An item outside brackets begins a word since it had no room in the one before. It stands behind
-- an item that leaves room, and so not behind a label, `align`, brackets, a plain word, `;`, `ex`
-- or a destination.
abbrev pub is_split_at : List Item → Option ℕ → Bool
is_split_at items (Some (suc before)) =
    leaves_room_at items before && is_loose_at items (suc before)
is_split_at items first = false

-- such an item begins the word at an address, which has an `unext`
abbrev pub split_loop : NodeView → ℕ → Bool
split_loop node address =
    option_map_or has_unext_in (slice_get node.words address) false
    && is_split_at node.items (first_item node address)
