-- The first fault of a node's items, and of a program.
--
-- A node is laid in two passes over its items. The first judges each item after those before it; a
-- label is known once it is defined. The second judges the names in brackets by the labels that are
-- defined later.
use Rattle.std.specs.Prelude.{◌⊎◌, ◌≡◌, ◌&&◌, ℕ, ◌+◌, Bool, true, false, not, List, [], ◌∷◌, ◌++◌, codes, length, map, nat_lt, Option, Some, None, if◌then◌else◌}
use Rattle.std.specs.Option.{unwrap_or}
use Rattle.ga_pack.specs.Model.Layout.{Labels, Group, Shared, Alone, Laid, StandIn, address_after, all_in_reach, is_defined, is_in_reach, is_unext, items_of, joins, labels_after, labels_behind, literals, names_in, ops_of, size}
use Rattle.ga_pack.specs.Model.Program.{PlacedItem, PlacedSection}
use Rattle.ga_pack.specs.Model.Source.{Item, Instruction, makes_word}
use Rattle.ga_pack.specs.Model.Text.{Place}
use Rattle.ga_pack.specs.declared.error_kind.AsmErrorKind.{AsmErrorKind}
use Rattle.ga_pack.specs.declared.error_kind.AsmErrorKind.TheVariants.{UndefinedLabel, OutOfReach, UnextAlone, TooLong, Memory}

-- how the fault of a program is named
abbrev pub asm_kind_name : AsmErrorKind → List ℕ
asm_kind_name UndefinedLabel = codes "UndefinedLabel"
asm_kind_name OutOfReach = codes "OutOfReach"
asm_kind_name UnextAlone = codes "UnextAlone"
asm_kind_name TooLong = codes "TooLong"
asm_kind_name Memory = codes "Memory"

-- ---- the first pass

-- an item behind groups shares the last word
abbrev pub joins_last : Labels → ℕ → List Group → Item → Bool
joins_last labels address [] i = false
joins_last labels address (Shared j js ∷ []) i = joins labels address (ops_of (j ∷ js)) i
joins_last labels address (Alone j ∷ []) i = false
joins_last labels address (group ∷ next ∷ groups) i =
    joins_last (labels_behind labels address group) (address + size group) (next ∷ groups) i

abbrev pub is_lone_unext : Bool → Item → Bool
is_lone_unext joined (Instruction o) = not joined && is_unext o
is_lone_unext joined i = false

-- how many words an item adds: one of its own if it joins none, and its follower
abbrev pub words_added : Bool → Item → ℕ
words_added joined i =
    (if joined then 0 else if makes_word i then 1 else 0) + length (literals (i ∷ []))

-- The fault of an item at an address, the first of these that applies. The names are all labels of
-- the node, the labels are those before the item, and it joins the last word or not.
abbrev pub fault_at : List (List ℕ) → Labels → ℕ → Bool → Item → Option AsmErrorKind
fault_at names labels address joined i =
    if not (is_defined names i) then Some UndefinedLabel
    else if not (is_in_reach labels address i) then Some OutOfReach
    else if is_lone_unext joined i then Some UnextAlone
    else if nat_lt 64 (address + words_added joined i) then Some TooLong
    else None

-- the fault of an item behind groups
unfoldable pub fault_behind : List (List ℕ) → List Group → Item → Option AsmErrorKind
fault_behind names groups i =
    fault_at names (labels_after [] 0 groups) (address_after 0 groups) (joins_last [] 0 groups i) i

-- an item behind those before it, which are in groups, has this fault or none
pub record Judgement (names : List (List ℕ)) (before : List Item) (item : Item)
    (fault : Option AsmErrorKind) : Type 0 where
  pub groups : List Group
  pub stand_in : StandIn before groups
  pub fault_is : fault_behind names groups item ≡ fault

-- none of these items has a fault, each behind those before it
unfoldable pub AllPass : List (List ℕ) → List Item → List Item → Type 0
AllPass names before [] = Unit {0}
AllPass names before (i ∷ is) = Judgement names before i None × AllPass names (before ++ i ∷ []) is

-- the first item with a fault, by the number of items before it, and its fault
pub record FirstPassFault (items : List Item) (at : ℕ) (kind : AsmErrorKind) : Type 0 where
  pub before : List Item
  pub item : Item
  pub rest : List Item
  pub split : items ≡ before ++ item ∷ rest
  pub at_is : at ≡ length before
  pub passed : AllPass (names_in items) [] before
  pub judged : Judgement (names_in items) before item (Some kind)

-- ---- the second pass

-- All items passed, and this one, a bracketed word, is the first whose name is out of reach, by all
-- labels of the node.
pub record SecondPassFault (items : List Item) (at : ℕ) (kind : AsmErrorKind) : Type 0 where
  pub passed : AllPass (names_in items) [] items
  pub front : List Group
  pub item : Item
  pub back : List Group
  pub stand_in : StandIn items (front ++ Alone item ∷ back)
  pub front_near : all_in_reach (labels_after [] 0 (front ++ Alone item ∷ back)) 0 front ≡ true
  pub item_far : is_in_reach
      (labels_after [] 0 (front ++ Alone item ∷ back)) (address_after 0 front) item ≡ false
  pub at_is : at ≡ length (items_of front)
  pub kind_is : kind ≡ OutOfReach

-- ---- the fault of a node, and of a program

-- the first fault of a node's items, by the number of items before it
abbrev pub AsmFault : List Item → ℕ → AsmErrorKind → Type 0
AsmFault items at kind = FirstPassFault items at kind ⊎ SecondPassFault items at kind

-- a node without a fault: its items are laid as words, and passed
pub record IsRight (items : List Item) : Type 0 where
  pub words : List ℕ
  pub labels : Labels
  pub code_len : ℕ
  pub laid : Laid items words labels code_len
  pub passed : AllPass (names_in items) [] items

abbrev pub plain_items : PlacedSection → List Item
plain_items section = map (λ placed. placed.item) section.items

-- the nodes of these sections have no fault
unfoldable pub AllRight : List PlacedSection → Type 0
AllRight [] = Unit {0}
AllRight (section ∷ sections) = IsRight (plain_items section) × AllRight sections

-- the place at which the fault of an item is reported: the name that it uses, or else its first
-- token
abbrev pub fault_place : PlacedItem → Place
fault_place i = unwrap_or i.name_place i.place

-- the first fault of a program: of its first node that has one, with the place of the item
pub record ProgramFault (program : List PlacedSection) (node : ℕ) (place : Place)
    (kind : AsmErrorKind) : Type 0 where
  pub before : List PlacedSection
  pub section : PlacedSection
  pub rest : List PlacedSection
  pub split : program ≡ before ++ section ∷ rest
  pub all_right : AllRight before
  pub node_is : node ≡ section.name
  pub front : List PlacedItem
  pub item : PlacedItem
  pub back : List PlacedItem
  pub items_split : section.items ≡ front ++ item ∷ back
  pub fault : AsmFault (plain_items section) (length front) kind
  pub place_is : place ≡ fault_place item
