-- The parser as a machine that takes one token at a time.
use Rattle.std.specs.Prelude.{◌≡◌, ◌==◌, ℕ, zero, suc, true, false, List, [], ◌∷◌, ◌++◌, length, nat_lt, Some, None, Result, Ok, Err, if◌then◌else◌}
use Rattle.ga_word.specs.declared.op.Op.{Op}
use Rattle.ga_word.specs.Op.{takes_dest}
use Rattle.ga_pack.specs.Followers.{is_followed}
use Rattle.ga_pack.specs.Model.Token.{Token, op, number, name, label, node, node_name, align, data_part, open_mark, close_mark, comma, slash, bad, end, is_reserved}
use Rattle.ga_pack.specs.Model.Layout.{names_in}
use Rattle.ga_pack.specs.Model.Source.{Value, Number, Label, Item, Instruction, Transfer, Literal, Here, Align, Word, WordTo, Plain, Data, Section, Part, Code, Behind, Before, start, after, part_after, stand_from, is_among, is_below, is_named}
use Rattle.ga_pack.specs.Model.SourceFault.{bracket_fault, owed_fault, value_fault}
use Rattle.ga_pack.specs.Slots.{dest_bound, op_fits, spare_bound}
use Rattle.ga_pack.specs.declared.error_kind.SourceErrorKind.{SourceErrorKind}
use Rattle.ga_pack.specs.declared.error_kind.SourceErrorKind.TheVariants.{BadToken, NumberRange, BadNode, DuplicateNode, DuplicateLabel, ReservedLabel, BadWord, NoNode, Empty}

-- the parser's place inside an item: what it has read of the item
pub data At : Type 0 where
  between : At
  behind_op : Op → At
  behind_comma : At
  in_word : List Op → At
  behind_dest_op : List Op → Op → At
  behind_dest : List Op → Op → Value → At
  behind_slash : List Op → Op → Value → At
  behind_spare : List Op → Op → Value → ℕ → At

-- the sections that are done, their names, and the section that is open
pub record Inside : Type 0 where
  pub done : List Section
  pub seen : List ℕ
  pub name : ℕ
  pub items : List Item
  pub before : Before

pub data State : Type 0 where
  -- no token yet
  nothing : State
  -- behind `node`
  naming : List Section → List ℕ → State
  inside : Inside → At → State
  finished : List Section → State

-- the sections, with the one that is open
abbrev pub sections_closed : Inside → List Section
sections_closed c = c.done ++ record { name = c.name; items = c.items } ∷ []

-- the item is whole
abbrev pub item_added : Inside → Item → Part → State
item_added c i p =
    inside (record {
      done = c.done;
      seen = c.seen;
      name = c.name;
      items = c.items ++ i ∷ [];
      before = after c.before i p;
    }) between

abbrev pub take_op : Inside → Op → Result State SourceErrorKind
take_op c o =
    if takes_dest o then Ok (inside c (behind_op o)) else if is_followed o then Err BadToken
    else Ok (item_added c (Instruction o) (Code 0))

abbrev pub take_label : Inside → List ℕ → Result State SourceErrorKind
take_label c s =
    if is_reserved s then Err ReservedLabel else if is_among s c.before.labels
    then Err DuplicateLabel else Ok (item_added c (Here s) c.before.part)

-- a token that begins an item, and is no label, `node` or end, in a part
abbrev pub take_first : Part → Inside → Token → Result State SourceErrorKind
take_first Behind c comma = Ok (inside c behind_comma)
take_first Behind c _ = Err BadToken
take_first (Code (suc owed)) c comma = Ok (inside c behind_comma)
take_first (Code owed) c data_part = Ok (item_added c Data Behind)
take_first (Code (suc owed)) c t = Err (owed_fault t)
take_first (Code zero) c (op o) = take_op c o
take_first (Code zero) c (number n) = Ok (item_added c (Literal n) (Code 0))
take_first (Code zero) c align = Ok (item_added c Align (Code 0))
take_first (Code zero) c open_mark = Ok (inside c (in_word []))
take_first (Code zero) c _ = Err BadToken

-- an item that may have to be in another part
abbrev pub with_part : Inside → Item → Result State SourceErrorKind
with_part c i =
    elim (part_after c.before.part i) [ None ↦ Err BadToken | Some p ↦ Ok (item_added c i p) ]

abbrev pub take_between : Inside → Token → Result State SourceErrorKind
take_between c (bad k) = Err k
take_between c end = if c.before.has_word then Ok (finished (sections_closed c)) else Err Empty
take_between c node =
    if c.before.has_word then Ok (naming (sections_closed c) (c.seen ++ c.name ∷ [])) else Err Empty
take_between c (label s) = take_label c s
take_between c t = take_first c.before.part c t

-- an opcode in brackets
abbrev pub take_slot : Inside → List Op → Op → Result State SourceErrorKind
take_slot c ops o =
    if takes_dest o
    then (if nat_lt (length ops) 3 then Ok (inside c (behind_dest_op ops o)) else Err BadWord)
    else if op_fits (length ops) o then Ok (inside c (in_word (ops ++ o ∷ []))) else Err BadWord

-- the answer to a token
abbrev pub take : State → Token → Result State SourceErrorKind
take nothing (bad k) = Err k
take nothing node = Ok (naming [] [])
take nothing _ = Err NoNode
take (naming done seen) (bad k) = Err k
take (naming done seen) (node_name n) =
    if is_named n seen then Err DuplicateNode else
    Ok (inside (record { done = done; seen = seen; name = n; items = []; before = start }) between)
take (naming done seen) _ = Err BadNode
take (inside c between) t = take_between c t
take (inside c (behind_op o)) (number n) =
    if nat_lt n (dest_bound 0) then Ok (item_added c (Transfer o (Number n)) (Code 0))
    else Err NumberRange
take (inside c (behind_op o)) (name s) = Ok (item_added c (Transfer o (Label s)) (Code 0))
take (inside c (behind_op o)) t = Err (value_fault t)
take (inside c behind_comma) (number n) = with_part c (Plain (Number n))
take (inside c behind_comma) (name s) = with_part c (Plain (Label s))
take (inside c behind_comma) t = Err (value_fault t)
take (inside c (in_word ops)) (op o) = take_slot c ops o
take (inside c (in_word ops)) close_mark =
    if nat_lt 0 (length ops) then with_part c (Word ops) else Err BadWord
take (inside c (in_word ops)) t = Err (bracket_fault t)
take (inside c (behind_dest_op ops o)) (number n) =
    if nat_lt n (dest_bound (length ops)) then Ok (inside c (behind_dest ops o (Number n)))
    else Err BadWord
take (inside c (behind_dest_op ops o)) (name s) = Ok (inside c (behind_dest ops o (Label s)))
take (inside c (behind_dest_op ops o)) t = Err (bracket_fault t)
take (inside c (behind_dest ops o v)) slash =
    if length ops == 0 then Ok (inside c (behind_slash ops o v)) else Err BadWord
take (inside c (behind_dest ops o v)) close_mark = with_part c (WordTo ops o v None)
take (inside c (behind_dest ops o v)) t = Err (bracket_fault t)
take (inside c (behind_slash ops o v)) (number k) =
    if nat_lt k (spare_bound 0) then Ok (inside c (behind_spare ops o v k)) else Err BadWord
take (inside c (behind_slash ops o v)) t = Err (bracket_fault t)
take (inside c (behind_spare ops o v k)) close_mark = with_part c (WordTo ops o v (Some k))
take (inside c (behind_spare ops o v k)) t = Err (bracket_fault t)
take (finished p) t = Err BadToken

-- what the parser has checked of the item that has started
abbrev pub Good : State → Type 0
Good (inside c (behind_op o)) = (takes_dest o ≡ true) × (c.before.part ≡ Code 0)
Good (inside c behind_comma) =
    (q : Part) × ((v : Value) → part_after c.before.part (Plain v) ≡ Some q)
Good (inside c (in_word ops)) = (stand_from 0 ops ≡ true) × (c.before.part ≡ Code 0)
Good (inside c (behind_dest_op ops o)) =
    (stand_from 0 ops ≡ true) × (nat_lt (length ops) 3 ≡ true) × (takes_dest o ≡ true)
    × (c.before.part ≡ Code 0)
Good (inside c (behind_dest ops o v)) =
    (stand_from 0 ops ≡ true) × (nat_lt (length ops) 3 ≡ true) × (takes_dest o ≡ true)
    × (is_below (dest_bound (length ops)) v ≡ true) × (c.before.part ≡ Code 0)
Good (inside c (behind_slash ops o v)) =
    (stand_from 0 ops ≡ true) × (nat_lt (length ops) 3 ≡ true) × (takes_dest o ≡ true)
    × (is_below (dest_bound (length ops)) v ≡ true) × ((length ops == 0) ≡ true)
    × (c.before.part ≡ Code 0)
Good (inside c (behind_spare ops o v k)) =
    (stand_from 0 ops ≡ true) × (nat_lt (length ops) 3 ≡ true) × (takes_dest o ≡ true)
    × (is_below (dest_bound (length ops)) v ≡ true) × ((length ops == 0) ≡ true)
    × (nat_lt k (spare_bound 0) ≡ true) × (c.before.part ≡ Code 0)
Good _ = Unit {0}

-- The node of the open section is not that of a section that is done, and its labels are those of
-- its items.
abbrev pub IsConsistent : State → Type 0
IsConsistent (inside c at) = (is_named c.name c.seen ≡ false) × (c.before.labels ≡ names_in c.items)
IsConsistent _ = Unit {0}
