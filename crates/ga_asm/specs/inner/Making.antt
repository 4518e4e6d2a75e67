-- What is kept of the words of a node while they are made, with the labels of the whole node.
use Rattle.std.specs.Prelude.{◌≡◌, ◌≤◌, ℕ, Bool, true, false, List, [], ◌∷◌, ◌++◌, drop, length, map, Option, Some, None, if◌then◌else◌}
use Rattle.std.specs.Option.{unwrap_or}
use Rattle.ga_word.specs.declared.op.Op.{Op}
use Rattle.ga_pack.specs.Encoding.{pack_fault}
use Rattle.ga_pack.specs.Model.Layout.{Labels, Group, Shared, Alone, GroupWords, Laid, StandIn, Words, address_after, all_in_reach, dest_in, is_loose, items_of, labels_after, last_dest, names_in, ops_of, with_fillers}
use Rattle.ga_pack.specs.Model.LayoutFault.{AllPass}
use Rattle.ga_pack.specs.Model.Source.{Item, Transfer, is_item}
use Rattle.ga_asm.specs.Image.{item_count, labels_of}
use Rattle.ga_asm.specs.inner.Layout.{data_at}
use Rattle.ga_asm.specs.declared.layout.Layout as the

-- the group that an item is the first of, and the others
abbrev pub group_of : Item → List Item → Group
group_of i is = if is_loose i then Shared i is else Alone i

-- the destination of an item behind this many opcodes of its word
abbrev pub item_dest : Labels → ℕ → Item → Option ℕ
item_dest labels slot (Transfer o v) = Some (dest_in labels slot v)
item_dest labels slot i = None

-- a word spells these opcodes, with fillers, this destination and these spare bits
abbrev pub IsPackable : List Op → Option ℕ → ℕ → Type 0
IsPackable ops dest spare = pack_fault (with_fillers ops dest) dest spare ≡ None

-- Items outside brackets that share a word, or an item that shares no word.
abbrev pub IsGroupBy : Labels → Bool → Item → List Item → Type 0
IsGroupBy labels true i is =
    (length (i ∷ is) ≤ 4) × IsPackable (ops_of (i ∷ is)) (last_dest labels 0 (i ∷ is)) 0
IsGroupBy labels false i is = is_item i ≡ true

-- These items are a group.
unfoldable pub IsGroup : Labels → List Item → Type 0
IsGroup labels [] = ⊥
IsGroup labels (i ∷ is) = IsGroupBy labels (is_loose i) i is

-- the number that a word is followed by for an item
abbrev pub follower_list : Option ℕ → List ℕ
follower_list None = []
follower_list (Some n) = n ∷ []

-- These items, which are a group, were laid as words behind others.
unfoldable pub MoreWords : Labels → List Item → List ℕ → List ℕ → Type 0
MoreWords labels [] words more = ⊥
MoreWords labels (i ∷ is) words more =
    (new : List ℕ) × GroupWords labels (group_of i is) new × (more ≡ words ++ new)

-- The words of the groups in front are made, and no name in them is out of reach. These items are
-- left.
pub record Making (items : List Item) (l : the.Layout) (done : ℕ) (rest : List Item)
    (words : List ℕ) : Type 0 where
  pub front : List Group
  pub back : List Group
  pub stand_in : StandIn items (front ++ back)
  pub passed : AllPass (names_in items) [] items
  pub labels_are : labels_of l.labels.entries ≡ labels_after [] 0 (front ++ back)
  pub address_is : l.address ≡ address_after 0 (front ++ back)
  pub data_is : l.data_start ≡ data_at 0 (front ++ back)
  pub few : l.address ≤ 64
  pub rest_is : rest ≡ items_of back
  pub counts_are : drop done l.counts.items ≡ map item_count back
  pub words_are : Words (labels_of l.labels.entries) front words
  pub count : length words ≡ address_after 0 front
  pub near : all_in_reach (labels_of l.labels.entries) 0 front ≡ true

-- All words are made, and no name is out of reach.
pub record IsMade (items : List Item) (l : the.Layout) (words : List ℕ) : Type 0 where
  pub laid : Laid items words (labels_of l.labels.entries) (unwrap_or l.data_start l.address)
  pub passed : AllPass (names_in items) [] items
  pub count : length words ≡ l.address
  pub within : unwrap_or l.data_start l.address ≤ length words
