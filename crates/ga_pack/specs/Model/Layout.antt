-- How the items of a node are laid into words: the result, and not the way to it.
--
-- An item outside brackets is one opcode, and takes a slot of a word. Items that share a word fill
-- it from slot 0 on, and what is left of it holds fillers, `.`. A bracketed word, a plain word, a
-- label, `align` and `data` share no word with any item. The rules are this project's profile, on
-- the words of the F18A reference, DB001.
use Rattle.std.specs.Prelude.{◌<◌, ◌≡◌, ◌==◌, ◌&&◌, ◌||◌, ℕ, zero, suc, ◌+◌, ◌%◌, ◌/◌, ◌^◌, Bool, true, false, not, count_by, List, [], ◌∷◌, ◌++◌, length, nat_lt, Option, Some, None, if◌then◌else◌}
use Rattle.std.specs.List.{list_all, list_any}
use Rattle.std.specs.Option.{option_map_or, unwrap_or}
use Rattle.std.specs.Str.{bytes_eq}
use Rattle.ga_word.specs.declared.op.Op.{Op}
use Rattle.ga_word.specs.declared.op.Op.TheVariants.{FetchP, Micronext, Nop}
use Rattle.ga_word.specs.Op.{ends_word}
use Rattle.ga_word.specs.Word.{bits}
use Rattle.ga_pack.specs.Followers.{is_followed}
use Rattle.ga_pack.specs.Slots.{dest_bound, op_fits}
use Rattle.ga_pack.specs.Model.Source.{Value, Number, Label, Item, Instruction, Transfer, Literal, Here, Word, WordTo, Plain, Data, is_among, makes_word}
use Rattle.ga_pack.specs.Reading.{Reads}

-- ---- labels

-- labels with their addresses
abbrev pub Labels : Type 0
Labels = List (List ℕ × ℕ)

abbrev pub address_of : Labels → List ℕ → Option ℕ
address_of [] s = None
address_of (label ∷ labels) s = if bytes_eq s label.0 then Some label.1 else address_of labels s

-- a number, or the address of a label, if it is among these
abbrev pub value_of : Labels → Value → Option ℕ
value_of labels (Number n) = Some n
value_of labels (Label s) = address_of labels s

-- The names that items define, and whether the name that an item uses is one of them.
abbrev pub names_in : List Item → List (List ℕ)
names_in [] = []
names_in (Here s ∷ is) = s ∷ names_in is
names_in (i ∷ is) = names_in is

abbrev pub is_value : List (List ℕ) → Value → Bool
is_value names (Number n) = true
is_value names (Label s) = is_among s names

abbrev pub is_defined : List (List ℕ) → Item → Bool
is_defined names (Transfer o v) = is_value names v
is_defined names (WordTo ops o v spare) = is_value names v
is_defined names (Plain v) = is_value names v
is_defined names i = true

-- ---- which slots an item fits

-- an item outside brackets is one opcode
abbrev pub is_loose : Item → Bool
is_loose (Instruction o) = true
is_loose (Transfer o v) = true
is_loose (Literal n) = true
is_loose i = false

-- that opcode; a number is `@p`, with the number as its follower
abbrev pub op_of : Item → Op
op_of (Instruction o) = o
op_of (Transfer o v) = o
op_of i = FetchP

abbrev pub ops_of : List Item → List Op
ops_of [] = []
ops_of (i ∷ is) = op_of i ∷ ops_of is

-- P in the slot behind these opcodes of the word at an address: the next address, and one more for
-- each `@p` and `!p`. Those behind `;` or `ex` count too (`followers` leaves them out).
abbrev pub p_behind : ℕ → List Op → ℕ
p_behind address ops = address + 1 + count_by is_followed ops

-- The numbers that a destination in a slot reaches: from slot 0 each, from slot 1 those below 100
-- (hexadecimal), and from slot 2 those in the page of P, which is eight words: the destination
-- replaces only its low three bits.
abbrev pub reaches : ℕ → ℕ → ℕ → Bool
reaches slot p dest =
    (slot == 0) || ((slot == 1) && nat_lt dest (dest_bound 1))
    || ((slot == 2) && (dest / 8 == p / 8))

-- a label that is not defined yet is allowed in slots 0 and 1, which reach each address
abbrev pub may_reach : ℕ → ℕ → Option ℕ → Bool
may_reach slot p (Some dest) = reaches slot p dest
may_reach slot p None = nat_lt slot 2

abbrev pub is_unext : Op → Bool
is_unext Micronext = true
is_unext o = false

-- Whether an item outside brackets fits the slot behind these opcodes of the word at an address.
-- The labels are those that are defined before the item. An `unext` runs its own word again, and is
-- never in slot 0.
unfoldable pub fits : Labels → ℕ → List Op → Item → Bool
fits labels address ops (Instruction o) =
    op_fits (length ops) o && (not (is_unext o) || nat_lt 0 (length ops))
fits labels address ops (Transfer o v) =
    may_reach (length ops) (p_behind address ops) (value_of labels v)
fits labels address ops (Literal n) = op_fits (length ops) FetchP
fits labels address ops i = false

-- It joins the word with these opcodes: none of them ends the word, and it fits the slot behind
-- them.
abbrev pub joins : Labels → ℕ → List Op → Item → Bool
joins labels address ops i = not (list_any ends_word ops) && fits labels address ops i

-- ---- the groups of a node

-- items outside brackets that share a word, from slot 0 on, or an item that shares no word
pub data Group : Type 0 where
  Shared : Item → List Item → Group
  Alone : Item → Group

abbrev pub items_of : List Group → List Item
items_of [] = []
items_of (Shared i is ∷ groups) = i ∷ (is ++ items_of groups)
items_of (Alone i ∷ groups) = i ∷ items_of groups

-- the followers of a shared word, in order
abbrev pub literals : List Item → List ℕ
literals [] = []
literals (Literal n ∷ is) = n ∷ literals is
literals (i ∷ is) = literals is

-- how many words a group takes
abbrev pub size : Group → ℕ
size (Shared i is) = 1 + length (literals (i ∷ is))
size (Alone i) = if makes_word i then 1 else 0

-- the labels that are defined behind a group at an address
abbrev pub labels_behind : Labels → ℕ → Group → Labels
labels_behind labels address (Alone (Here s)) = labels ++ (s, address) ∷ []
labels_behind labels address group = labels

-- each of these items joins the word behind the opcodes before it
abbrev pub stand : Labels → ℕ → List Op → List Item → Bool
stand labels address ops [] = true
stand labels address ops (i ∷ is) =
    joins labels address ops i && stand labels address (ops ++ op_of i ∷ []) is

-- the next item would join too
abbrev pub more_join : Labels → ℕ → List Op → List Item → Bool
more_join labels address ops [] = false
more_join labels address ops (i ∷ is) = joins labels address ops i

-- Groups from an address on, behind these labels. Items that share a word fit it, and the word is
-- full: the next item would not join it.
--
-- So fillers come only behind a word's last item. A filler before an item would never let a word
-- hold more items: slot 0 holds an item, and what doesn't fit a slot from 1 on fits none behind it,
-- since slot 3 takes fewer opcodes than slot 2, and the page of P lies below 100 (hexadecimal).
--
-- A border closes a word: behind `;`, `ex` and a destination no item joins it, and a label,
-- `align`, `data`, a bracketed word and a plain word never do.
unfoldable pub Arrangement : Labels → ℕ → List Group → Type 0
Arrangement labels address [] = Unit {0}
Arrangement labels address (Shared i is ∷ groups) =
    (stand labels address [] (i ∷ is) ≡ true)
    × (more_join labels address (ops_of (i ∷ is)) (items_of groups) ≡ false)
    × Arrangement labels (address + size (Shared i is)) groups
Arrangement labels address (Alone i ∷ groups) =
    (is_loose i ≡ false)
    × Arrangement (labels_behind labels address (Alone i)) (address + size (Alone i)) groups

-- these are the groups of the items, in order, from address 0 on
pub record StandIn (items : List Item) (groups : List Group) : Type 0 where
  pub in_order : items_of groups ≡ items
  pub arranged : Arrangement [] 0 groups

-- the labels, and the address, behind groups
abbrev pub labels_after : Labels → ℕ → List Group → Labels
labels_after labels address [] = labels
labels_after labels address (group ∷ groups) =
    labels_after (labels_behind labels address group) (address + size group) groups

abbrev pub address_after : ℕ → List Group → ℕ
address_after address [] = address
address_after address (group ∷ groups) = address_after (address + size group) groups

-- the address at which the code part ends: `data`, or the end
abbrev pub code_end : ℕ → List Group → ℕ
code_end address [] = address
code_end address (Alone Data ∷ groups) = address
code_end address (group ∷ groups) = code_end (address + size group) groups

-- ---- the words

-- The number of a value. A name that is no label has 0 here, but no such items are laid.
abbrev pub value_number : Labels → Value → ℕ
value_number labels v = unwrap_or (value_of labels v) 0

-- these opcodes, filled up to a number of opcodes
abbrev pub filled : ℕ → List Op → List Op
filled zero ops = ops
filled (suc room) [] = Nop ∷ filled room []
filled (suc room) (o ∷ ops) = o ∷ filled room ops

-- the low bits of a value, as many as a destination has behind a slot
abbrev pub dest_in : Labels → ℕ → Value → ℕ
dest_in labels slot v = value_number labels v % dest_bound slot

-- the destination of the last of some items, the first of which is in this slot
abbrev pub last_dest : Labels → ℕ → List Item → Option ℕ
last_dest labels slot [] = None
last_dest labels slot (Transfer o v ∷ []) = Some (dest_in labels slot v)
last_dest labels slot (i ∷ is) = last_dest labels (suc slot) is

-- the opcodes of a word: without a destination behind these, fillers up to slot 3
abbrev pub with_fillers : List Op → Option ℕ → List Op
with_fillers ops (Some dest) = ops
with_fillers ops None = filled 4 ops

-- a word that reads as these opcodes, with fillers, this destination and these spare bits
pub record IsWord (word : ℕ) (ops : List Op) (dest : Option ℕ) (spare : ℕ) : Type 0 where
  pub below : word < 2 ^ 18
  pub reads : Reads (bits 18 word) (with_fillers ops dest) dest spare

-- The words of a group, with the labels of the whole node. The followers of a shared word come
-- behind it; those of a bracketed word are plain words, in groups of their own.
unfoldable pub GroupWords : Labels → Group → List ℕ → Type 0
GroupWords labels (Shared i is) words =
    (word : ℕ) × IsWord word (ops_of (i ∷ is)) (last_dest labels 0 (i ∷ is)) 0
    × (words ≡ word ∷ literals (i ∷ is))
GroupWords labels (Alone (Word ops)) words =
    (word : ℕ) × IsWord word ops None 0 × (words ≡ word ∷ [])
GroupWords labels (Alone (WordTo ops o v spare)) words =
    (word : ℕ) × IsWord word (ops ++ o ∷ []) (Some (dest_in labels (length ops) v))
    (unwrap_or spare 0) × (words ≡ word ∷ [])
GroupWords labels (Alone (Plain v)) words = words ≡ value_number labels v ∷ []
GroupWords labels (Alone i) words = words ≡ []

unfoldable pub Words : Labels → List Group → List ℕ → Type 0
Words labels [] words = words ≡ []
Words labels (group ∷ groups) words =
    (front : List ℕ) × (back : List ℕ) × GroupWords labels group front × Words labels groups back
    × (words ≡ front ++ back)

-- A name that is the destination of a bracketed word at an address is in reach from its slot. (A
-- number there is the field itself.) A label that is not among these is not judged.
abbrev pub is_in_reach : Labels → ℕ → Item → Bool
is_in_reach labels address (WordTo ops o (Label s) spare) =
    option_map_or (reaches (length ops) (p_behind address ops)) (address_of labels s) true
is_in_reach labels address i = true

abbrev pub group_in_reach : Labels → ℕ → Group → Bool
group_in_reach labels address (Alone i) = is_in_reach labels address i
group_in_reach labels address (Shared i is) = true

abbrev pub all_in_reach : Labels → ℕ → List Group → Bool
all_in_reach labels address [] = true
all_in_reach labels address (group ∷ groups) =
    group_in_reach labels address group && all_in_reach labels (address + size group) groups

-- The items are laid as these words, with these labels, the first `code_len` words being code.
pub record Laid (items : List Item) (words : List ℕ) (labels : Labels) (code_len : ℕ) : Type 0 where
  pub groups : List Group
  pub stand_in : StandIn items groups
  -- a label is the address of the next word, or the number of words if none follows
  pub labels_are : labels ≡ labels_after [] 0 groups
  pub all_defined : list_all (is_defined (names_in items)) items ≡ true
  pub in_reach : all_in_reach labels 0 groups ≡ true
  pub words_are : Words labels groups words
  pub code_is : code_len ≡ code_end 0 groups
