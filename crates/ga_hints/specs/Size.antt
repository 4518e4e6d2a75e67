-- How many words the items of a node need, by the rules of the layout but without its limit of 64
-- words.
use Rattle.std.specs.Prelude.{ℕ, ◌+◌, ◌-◌, Bool, true, false, List, [], ◌∷◌, ◌++◌, codes, fold, is_some, unwrap_or, Option, Some, None, if◌then◌else◌}
use Rattle.std.specs.Option.{option_or}
use Rattle.std.specs.Fmt.{decimal}
use Rattle.ga_word.specs.declared.op.Op.{Op}
use Rattle.ga_pack.specs.Model.Layout.{Labels, address_of, is_loose, joins, op_of}
use Rattle.ga_pack.specs.Model.LayoutFault.{words_added}
use Rattle.ga_pack.specs.Model.Source.{Data, Here, Item}
use Rattle.ga_hints.specs.declared.size.Size.{Size}

-- ---- the word that the next item may join

-- its address and its opcodes, if there is one
abbrev pub Open : Type 0
Open = Option (ℕ × List Op)

abbrev pub joins_open : Labels → Open → Item → Bool
joins_open labels None item = false
joins_open labels (Some word) item = joins labels word.0 word.1 item

-- Behind an item, which joined that word or not. Otherwise it begins one at an address, or makes
-- none that others may join.
abbrev pub open_after : Bool → Open → ℕ → Item → Open
open_after true None address item = None
open_after true (Some word) address item = Some (word.0, word.1 ++ op_of item ∷ [])
open_after false before address item =
    if is_loose item then Some (address, op_of item ∷ []) else None

-- ---- one item after the other

abbrev pub is_data : Item → Bool
is_data Data = true
is_data item = false

-- the address of the first `data`, behind an item at an address
abbrev pub data_after : Option ℕ → ℕ → Item → Option ℕ
data_after start address item = option_or start (if is_data item then Some address else None)

-- what is known of the items so far
pub record Sizing : Type 0 where
  pub labels : Labels
  -- the address of the next word
  pub address : ℕ
  -- the address and the opcodes of the word that the next item may join
  pub open_word : Open
  -- the address of the first `data`
  pub data_start : Option ℕ

abbrev pub unsized : Sizing
unsized = record { labels = []; address = 0; open_word = None; data_start = None }

-- a label has one address, the first that it gets
abbrev pub defined : Labels → ℕ → List ℕ → Labels
defined labels address name =
    if is_some (address_of labels name) then labels else labels ++ (name, address) ∷ []

-- the labels behind an item at an address
abbrev pub labels_with : Labels → ℕ → Item → Labels
labels_with labels address (Here name) = defined labels address name
labels_with labels address item = labels

-- One more item: it joins the open word, if it fits there, or adds words of its own.
abbrev pub with_item : Sizing → Item → Sizing
with_item now item =
    let joined = joins_open now.labels now.open_word item in record {
      labels = labels_with now.labels now.address item;
      address = now.address + words_added joined item;
      open_word = open_after joined now.open_word now.address item;
      data_start = data_after now.data_start now.address item;
    }

-- the words in front of the first `data`, and those behind it
abbrev pub size_in : Sizing → Size
size_in all =
    let code = unwrap_or all.data_start all.address in
    record { code = code; «data» = all.address - code }

-- the size of the items of a node
unfoldable pub size_of : List Item → Size
size_of items = size_in (fold with_item unsized items)

-- the words that a program needs, and how many of them a node has no room for
abbrev pub size_text : Size → List ℕ
size_text size =
    codes "it needs " ++ decimal (size.code + size.data) ++ codes " words: " ++ decimal size.code
    ++ codes " code, " ++ decimal size.data ++ codes " data; "
    ++ decimal (size.code + size.data - 64) ++ codes " over"
