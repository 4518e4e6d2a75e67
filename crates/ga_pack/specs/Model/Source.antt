-- Which lists of tokens are source texts, and which program each is.
--
-- A program is spelled token by token (`text_tokens`). The right programs are those whose sections
-- and items are right (`Sections`, `Items`). Nothing here walks a text.
use Rattle.std.specs.Prelude.{◌≡◌, ◌==◌, ◌&&◌, ◌||◌, ℕ, zero, suc, Bool, true, false, not, List, [], ◌∷◌, ◌++◌, length, nat_eq, nat_lt, Option, Some, None}
use Rattle.std.specs.List.{list_any}
use Rattle.std.specs.Str.{bytes_eq}
use Rattle.ga_word.specs.declared.op.Op.{Op}
use Rattle.ga_word.specs.Op.{takes_dest}
use Rattle.ga_pack.specs.Followers.{followers, is_followed}
use Rattle.ga_pack.specs.Slots.{dest_bound, op_fits, spare_bound}
use Rattle.ga_pack.specs.Model.Token.{Token, op, number, name, label, node, node_name, align, data_part, open_mark, close_mark, comma, slash, end, is_reserved}

-- a number, or the address of a label of the node
pub data Value : Type 0 where
  Number : ℕ → Value
  Label : List ℕ → Value

pub data Item : Type 0 where
  -- an opcode that takes no destination and has no follower
  Instruction : Op → Item
  -- an opcode and its destination
  Transfer : Op → Value → Item
  -- a number: `@p`, with the number as its follower
  Literal : ℕ → Item
  -- a label: it names the next address
  Here : List ℕ → Item
  Align : Item
  -- a bracketed word without destination
  Word : List Op → Item
  -- a bracketed word: opcodes, the last one with its destination, and spare bits if they are stated
  WordTo : List Op → Op → Value → Option ℕ → Item
  -- a plain word, behind `,`
  Plain : Value → Item
  Data : Item

-- a node and its items
pub record Section : Type 0 where
  pub name : ℕ
  pub items : List Item

-- ---- how a program is spelled: each part in front of the tokens that follow it

abbrev pub value_token : Value → Token
value_token (Number n) = number n
value_token (Label s) = name s

abbrev pub op_tokens : List Op → List Token → List Token
op_tokens [] rest = rest
op_tokens (o ∷ ops) rest = op o ∷ op_tokens ops rest

-- the spare bits behind a destination, if they are given, and the end of the word
abbrev pub spare_tokens : Option ℕ → List Token → List Token
spare_tokens None rest = close_mark ∷ rest
spare_tokens (Some spare) rest = slash ∷ number spare ∷ close_mark ∷ rest

abbrev pub item_tokens : Item → List Token → List Token
item_tokens (Instruction o) rest = op o ∷ rest
item_tokens (Transfer o v) rest = op o ∷ value_token v ∷ rest
item_tokens (Literal n) rest = number n ∷ rest
item_tokens (Here s) rest = label s ∷ rest
item_tokens Align rest = align ∷ rest
item_tokens (Word ops) rest = open_mark ∷ op_tokens ops (close_mark ∷ rest)
item_tokens (WordTo ops o v spare) rest =
    open_mark ∷ op_tokens ops (op o ∷ value_token v ∷ spare_tokens spare rest)
item_tokens (Plain v) rest = comma ∷ value_token v ∷ rest
item_tokens Data rest = data_part ∷ rest

abbrev pub items_tokens : List Item → List Token → List Token
items_tokens [] rest = rest
items_tokens (i ∷ is) rest = item_tokens i (items_tokens is rest)

-- the sections, and the text's end
abbrev pub text_tokens : List Section → List Token
text_tokens [] = end ∷ []
text_tokens (s ∷ ss) = node ∷ node_name s.name ∷ items_tokens s.items (text_tokens ss)

-- ---- which items are right by themselves

-- a number below a bound, or any label
abbrev pub is_below : ℕ → Value → Bool
is_below bound (Number n) = nat_lt n bound
is_below bound (Label s) = true

-- opcodes without destination in the slots of a word, from one on
abbrev pub stand_from : ℕ → List Op → Bool
stand_from slot [] = true
stand_from slot (o ∷ ops) = not (takes_dest o) && op_fits slot o && stand_from (suc slot) ops

-- spare bits are given only behind a destination in slot 0, which leaves some
abbrev pub is_spare : ℕ → Option ℕ → Bool
is_spare slot None = true
is_spare slot (Some spare) = (slot == 0) && nat_lt spare (spare_bound 0)

unfoldable pub is_item : Item → Bool
is_item (Instruction o) = not (takes_dest o) && not (is_followed o)
is_item (Transfer o v) = takes_dest o && is_below (dest_bound 0) v
is_item (Literal n) = true
is_item (Here s) = not (is_reserved s)
is_item Align = true
is_item (Word ops) = nat_lt 0 (length ops) && stand_from 0 ops
is_item (WordTo ops o v spare) =
    stand_from 0 ops && nat_lt (length ops) 3 && takes_dest o
    && is_below (dest_bound (length ops)) v && is_spare (length ops) spare
is_item (Plain v) = true
is_item Data = true

-- ---- the order of items

-- The part of a section that an item is in: the code part, in which a number of followers of a
-- bracketed word may be missing, or the part behind `data`.
pub data Part : Type 0 where
  Code : ℕ → Part
  Behind : Part

-- The part of the next item, if this one is allowed here. A label is allowed anywhere. A bracketed
-- word needs its followers: until they are there only plain words are allowed, or `data`.
unfoldable pub part_after : Part → Item → Option Part
part_after p (Here s) = Some p
part_after (Code (suc owed)) (Plain v) = Some (Code owed)
part_after (Code zero) (Plain v) = None
part_after (Code owed) Data = Some Behind
part_after (Code zero) (Instruction o) = Some (Code 0)
part_after (Code zero) (Transfer o v) = Some (Code 0)
part_after (Code zero) (Literal n) = Some (Code 0)
part_after (Code zero) Align = Some (Code 0)
part_after (Code zero) (Word ops) = Some (Code (followers ops))
part_after (Code zero) (WordTo ops o v spare) = Some (Code (followers ops))
part_after (Code (suc owed)) i = None
part_after Behind (Plain v) = Some Behind
part_after Behind i = None

-- what comes before an item in its section: the part that it is in, the labels, and whether there
-- is a word
pub record Before : Type 0 where
  pub part : Part
  pub labels : List (List ℕ)
  pub has_word : Bool

abbrev pub start : Before
start = record { part = Code 0; labels = []; has_word = false }

abbrev pub is_among : List ℕ → List (List ℕ) → Bool
is_among s labels = list_any (bytes_eq s) labels

abbrev pub labels_with : Item → List (List ℕ) → List (List ℕ)
labels_with (Here s) labels = labels ++ s ∷ []
labels_with i labels = labels

abbrev pub is_new : Item → List (List ℕ) → Bool
is_new (Here s) labels = not (is_among s labels)
is_new i labels = true

abbrev pub makes_word : Item → Bool
makes_word (Here s) = false
makes_word Align = false
makes_word Data = false
makes_word i = true

abbrev pub after : Before → Item → Part → Before
after b i p =
    record { part = p; labels = labels_with i b.labels; has_word = b.has_word || makes_word i }

-- The items of a section behind those before them: each is right by itself, its label is new in the
-- section, and it is allowed there; and the section has a word.
unfoldable pub Items : Before → List Item → Type 0
Items b [] = b.has_word ≡ true
Items b (i ∷ is) =
    (p : Part) × (is_item i ≡ true) × (is_new i b.labels ≡ true) × (part_after b.part i ≡ Some p)
    × Items (after b i p) is

abbrev pub is_named : ℕ → List ℕ → Bool
is_named n names = list_any (nat_eq n) names

-- sections behind those of other nodes: each is of a new node, and its items are right
unfoldable pub Sections : List ℕ → List Section → Type 0
Sections seen [] = Unit {0}
Sections seen (s ∷ ss) =
    (is_named s.name seen ≡ false) × Items start s.items × Sections (seen ++ s.name ∷ []) ss

-- A list of tokens, with the text's end, is a text with this program: one section or more.
unfoldable pub Source : List Token → List Section → Type 0
Source ts [] = ⊥
Source ts (s ∷ ss) = (ts ≡ text_tokens (s ∷ ss)) × Sections [] (s ∷ ss)
