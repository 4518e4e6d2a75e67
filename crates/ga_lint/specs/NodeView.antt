-- What the rules know of a node.
use Rattle.std.specs.Prelude.{◌==◌, ◌&&◌, ℕ, ◌%◌, Bool, false, List, Option, None, map, option_and_then, option_map}
use Rattle.std.specs.List.{position_from, slice_get}
use Rattle.std.specs.Option.{option_map_or}
use Rattle.ga_asm.specs.Image.{ImageView}
use Rattle.ga_asm.specs.Places.{word_places}
use Rattle.ga_disasm.specs.Disassembling.{ItemView, Code, items_of}
use Rattle.ga_list.specs.Reading.{target}
use Rattle.ga_pack.specs.Model.Layout.{is_loose}
use Rattle.ga_pack.specs.Model.Program.{PlacedItem, place_at}
use Rattle.ga_pack.specs.Model.Source.{Item}
use Rattle.ga_pack.specs.Model.Text.{Place}
use Rattle.ga_place.specs.Address.{where_is}
use Rattle.ga_place.specs.declared.address.Where.{Where}

-- what is known of a node: its items and their places in the text, its image, what each of its
-- words is, and where each begins in the text
pub record NodeView : Type 0 where
  pub items : List Item
  pub item_places : List Place
  pub image : ImageView
  pub words : List ItemView
  pub word_places : List Place

-- a node with these items and this image
abbrev pub node_view : List PlacedItem → ImageView → NodeView
node_view placed image = record {
  items = map (λ placed. placed.item) placed;
  item_places = map (λ placed. placed.place) placed;
  image = image;
  words = items_of image.code_len image.words;
  word_places = word_places image.item_counts placed;
}

abbrev pub is_at : Place → Place → Bool
is_at place other = (other.line == place.line) && (other.column == place.column)

-- the item with which the word at an address begins, by its number from 0
abbrev pub first_item : NodeView → ℕ → Option ℕ
first_item node address =
    position_from (is_at (place_at node.word_places address)) 0 node.item_places

-- an item of this number stands outside brackets
abbrev pub is_loose_at : List Item → ℕ → Bool
is_loose_at items at = option_map_or is_loose (slice_get items at) false

-- the word at an address was laid by packing: it begins with an item outside brackets
abbrev pub is_packed : NodeView → ℕ → Bool
is_packed node address = option_map_or (is_loose_at node.items) (first_item node address) false

-- the address that the destination of a word at an address means, if it has one
abbrev pub dest_in : ℕ → ItemView → Option ℕ
dest_in address (Code reading) = option_map (target address reading.ops) reading.dest
dest_in address item = None

abbrev pub dest_at : NodeView → ℕ → Option ℕ
dest_at node address = option_and_then (dest_in address) (slice_get node.words address)

-- what an address reaches, by its low nine bits
abbrev pub lands : ℕ → Where
lands address = where_is (address % 0x200)

-- the only word of ROM that can be run, by its index: that at 0A9, by which a node goes to its idle
-- address
abbrev pub is_warm : ℕ → Bool
is_warm at = at == 0x29
