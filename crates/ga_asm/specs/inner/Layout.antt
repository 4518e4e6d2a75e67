-- What is kept of the items of a node while they are laid.
use Rattle.std.specs.Prelude.{◌≡◌, ◌≢◌, ◌<◌, ◌≤◌, ℕ, ◌+◌, Bool, true, false, List, [], ◌∷◌, ◌++◌, length, map, Option, Some, None, Result, Ok, Err, if◌then◌else◌}
use Rattle.std.specs.Option.{option_map, option_or}
use Rattle.ga_word.specs.declared.op.Op.{Op}
use Rattle.ga_pack.specs.Model.Layout.{Labels, Group, Shared, Alone, StandIn, address_after, is_loose, joins, labels_after, names_in, op_of, ops_of, size}
use Rattle.ga_pack.specs.Model.LayoutFault.{AllPass}
use Rattle.ga_pack.specs.Model.Source.{Item, Here, Data, is_among}
use Rattle.ga_source.specs.declared.item.Item as an
use Rattle.ga_source.specs.Item.{item_of}
use Rattle.ga_source.specs.Name.{NameText}
use Rattle.ga_pack.specs.declared.error_kind.AsmErrorKind.TheVariants.{Memory}
use Rattle.ga_asm.specs.Image.{all_near, item_count, labels_of}
use Rattle.ga_pack.specs.declared.error_kind.AsmErrorKind.{AsmErrorKind}
use Rattle.ga_asm.specs.declared.layout.Layout as the
use Rattle.ga_asm.specs.declared.open_word.OpenWord.{OpenWord}

-- items as the model has them
abbrev pub plain : List an.Item → List Item
plain items = map item_of items

-- the address and the opcodes of the word that the next item may join
abbrev pub Open : Type 0
Open = Option (ℕ × List Op)

abbrev pub open_of : the.Layout → Open
open_of l = option_map (λ word. (word.address, word.ops.items)) l.open_word

-- a slot of that word is free
abbrev pub HasRoom : Option OpenWord → Type 0
HasRoom None = Unit {0}
HasRoom (Some word) = length word.ops.items < 4

-- with these labels the item joins that word
abbrev pub joins_open : Labels → Open → Item → Bool
joins_open labels None i = false
joins_open labels (Some word) i = joins labels word.0 word.1 i

-- the item joins the word that is open
abbrev pub joins_word : the.Layout → Item → Bool
joins_word l i = joins_open (labels_of l.labels.entries) (open_of l) i

-- the open word behind an item, which joins it, or begins a word at an address, or makes no word
-- that is open
abbrev pub open_after : Bool → Open → ℕ → Item → Open
open_after true None address i = None
open_after true (Some word) address i = Some (word.0, word.1 ++ op_of i ∷ [])
open_after false open_word address i = if is_loose i then Some (address, op_of i ∷ []) else None

-- how many items the open word has, if a word is open
abbrev pub open_count : Open → List ℕ
open_count None = []
open_count (Some word) = length word.1 ∷ []

-- how many items each closed group has, behind an item
abbrev pub counts_after : Bool → Open → List ℕ → Item → List ℕ
counts_after true open_word counts i = counts
counts_after false open_word counts i =
    counts ++ open_count open_word ++ (if is_loose i then [] else 1 ∷ [])

abbrev pub is_data : Item → Bool
is_data Data = true
is_data i = false

-- the labels behind an item at an address
abbrev pub labels_with : Labels → ℕ → Item → Labels
labels_with labels address (Here s) = labels ++ (s, address) ∷ []
labels_with labels address i = labels

-- the address of the first `data`, behind an item at an address
abbrev pub data_after : Option ℕ → ℕ → Item → Option ℕ
data_after start address i = option_or start (if is_data i then Some address else None)

-- ---- the same of groups

abbrev pub open_at : ℕ → List Group → Open
open_at address [] = None
open_at address (Shared i is ∷ []) = Some (address, ops_of (i ∷ is))
open_at address (Alone i ∷ []) = None
open_at address (group ∷ next ∷ groups) = open_at (address + size group) (next ∷ groups)

-- how many items each group has, without a last word that is open
abbrev pub closed_counts : List Group → List ℕ
closed_counts [] = []
closed_counts (Shared i is ∷ []) = []
closed_counts (Alone i ∷ []) = 1 ∷ []
closed_counts (group ∷ next ∷ groups) = item_count group ∷ closed_counts (next ∷ groups)

-- the address of the first `data` among groups from an address on
abbrev pub data_at : ℕ → List Group → Option ℕ
data_at address [] = None
data_at address (Shared i is ∷ groups) = data_at (address + size (Shared i is)) groups
data_at address (Alone i ∷ groups) =
    if is_data i then Some address else data_at (address + size (Alone i)) groups

-- the names of labels
abbrev pub names_of : Labels → List (List ℕ)
names_of labels = map (λ label. label.0) labels

-- names as the model has them
abbrev pub plain_names : List NameText → List (List ℕ)
plain_names names = map (λ name. name.bytes) names

-- the first names are among the others
abbrev pub AreAmong : List (List ℕ) → List (List ℕ) → Type 0
AreAmong names others = (name : List ℕ) → is_among name names ≡ true → is_among name others ≡ true

-- the same names are among both
abbrev pub AreSameNames : List (List ℕ) → List (List ℕ) → Type 0
AreSameNames names others = (name : List ℕ) → is_among name names ≡ is_among name others

-- Nothing is laid.
pub record IsBlank (l : the.Layout) : Type 0 where
  pub labels : l.labels.entries ≡ []
  pub address : l.address ≡ 0
  pub closed : l.open_word ≡ None
  pub counts : l.counts.items ≡ []
  pub data_start : l.data_start ≡ None

-- The items are in groups without a fault of the first pass, and this is what the layout keeps.
pub record Laying (names : List (List ℕ)) (items : List Item) (l : the.Layout) : Type 0 where
  pub groups : List Group
  pub stand_in : StandIn items groups
  pub passed : AllPass names [] items
  pub labels_are : labels_of l.labels.entries ≡ labels_after [] 0 groups
  pub names_are : names_of (labels_of l.labels.entries) ≡ names_in items
  pub address_is : l.address ≡ address_after 0 groups
  pub open_is : open_of l ≡ open_at 0 groups
  pub counts_are : l.counts.items ≡ closed_counts groups
  pub data_is : l.data_start ≡ data_at 0 groups
  pub few : l.address ≤ 64
  pub labels_near : all_near (labels_of l.labels.entries) ≡ true

-- The same for all items, with each word closed.
pub record Placing (items : List Item) (l : the.Layout) : Type 0 where
  pub groups : List Group
  pub stand_in : StandIn items groups
  pub passed : AllPass (names_in items) [] items
  pub labels_are : labels_of l.labels.entries ≡ labels_after [] 0 groups
  pub address_is : l.address ≡ address_after 0 groups
  pub counts_are : l.counts.items ≡ map item_count groups
  pub data_is : l.data_start ≡ data_at 0 groups
  pub few : l.address ≤ 64
  pub labels_near : all_near (labels_of l.labels.entries) ≡ true

-- an item is refused for this fault, or when out of memory; it passes only if it has none
abbrev pub Refuses : {A : Type 0} → Option AsmErrorKind → Result A AsmErrorKind → Type 0
Refuses fault (Ok x) = fault ≡ None
Refuses fault (Err kind) = kind ≢ Memory → fault ≡ Some kind
