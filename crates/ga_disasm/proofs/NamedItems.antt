-- The items of the words that source items are laid as are those that the layout names.
use Rattle.std.proofs.Common.{◌≡◌, ◌∙◌, ◌≤◌, ◌+◌, ◌-◌, ℕ, zero, suc, Bool, true, false, List, [], ◌∷◌, ◌++◌, length, map, Option, Some, None, refl, sym, ap, subst, arith}
use Rattle.std.proofs.Math.Bool.{or-true}
use Rattle.std.proofs.lemmas.Bool.{and_from, and_parts, not-true}
use Rattle.std.specs.Prelude.{◌||◌, not, if◌then◌else◌}
use Rattle.std.specs.List.{list_all, list_any}
use Rattle.std.specs.Option.{unwrap_or}
use Rattle.ga_word.specs.declared.op.Op.{Op}
use Rattle.ga_word.specs.declared.op.Op.TheVariants.{FetchP, StoreP}
use Rattle.ga_word.specs.Op.{ends_word}
use Rattle.ga_pack.specs.Followers.{followers, is_followed}
use Rattle.ga_pack.specs.Model.Layout.{Labels, Group, Alone, Shared, Arrangement, GroupWords, IsWord, Laid, Words, code_end, dest_in, filled, fits, is_loose, items_of, joins, labels_behind, last_dest, literals, value_number, op_of, ops_of, size, stand, with_fillers}
use Rattle.ga_pack.specs.Model.Source as source
use Rattle.ga_pack.specs.Model.Source.{Item, Value, Instruction, Transfer, Literal, Here, Align, Word, WordTo, Plain, Before, Items, Part, is_below, is_item, is_new, is_spare, part_after, stand_from, start}
use Rattle.ga_pack.proofs.Encoded.{reading_is}
use Rattle.ga_pack.proofs.OneLayout.{joins_loose}
use Rattle.ga_pack.proofs.ByCases.{on_test}
use Rattle.ga_pack.proofs.ItemParts.{instruction_parts, transfer_parts, word_to_parts}
use Rattle.ga_disasm.specs.Disassembling.{ItemView, Follower, Data, items_from}
use Rattle.ga_disasm.specs.Instructions as named
use Rattle.ga_disasm.specs.Instructions.{group_items, named_items}
use Rattle.ga_pack.proofs.Packable.{takes_ends}
use Rattle.ga_disasm.proofs.Stepping.{code_next, data_next, follower_next}

-- ---- the followers of a word

followers-filled : (room : ℕ) (ops : List Op) → followers (filled room ops) ≡ followers ops
followers-filled zero ops = refl
followers-filled (suc room) [] = let e = followers-filled room [] in omega arith
followers-filled (suc room) (o ∷ ops) =
    ap (λ (n : ℕ). if ends_word o then 0
    else (if is_followed o then 1 else 0) + n) (followers-filled room ops)

followers-with_fillers : (ops : List Op) (dest : Option ℕ)
    → followers (with_fillers ops dest) ≡ followers ops
followers-with_fillers ops None = followers-filled 4 ops
followers-with_fillers ops (Some dest) = refl

-- the last opcode ends the word
followers-last : (ops : List Op) (o : Op) → ends_word o ≡ true
    → followers (ops ++ o ∷ []) ≡ followers ops
followers-last [] o ends = rw ends refl
followers-last (p ∷ ops) o ends =
    ap (λ (n : ℕ). if ends_word p then 0
    else (if is_followed p then 1 else 0) + n) (followers-last ops o ends)

-- what the opcode of an item outside brackets counts for
abbrev follows : Item → ℕ
follows i = if is_followed (op_of i) then 1 else 0

-- an opcode that is followed doesn't end the word
ends_not_followed : (o : Op) → ends_word o ≡ true → is_followed o ≡ false
ends_not_followed FetchP h = absurd (cc)
ends_not_followed StoreP h = absurd (cc)
ends_not_followed o h = refl

one_literal : (i : Item) → is_item i ≡ true → is_loose i ≡ true
    → length (literals (i ∷ [])) ≡ follows i
unfolding is_item
one_literal (Instruction o) right loose =
    let none = (instruction_parts o right).1 in rw none refl
one_literal (Transfer o v) right loose =
    rw (ends_not_followed o (takes_ends o (transfer_parts o v right).0)) refl
one_literal (Literal n) right loose = refl
one_literal i right loose = absurd (cc)

literals_cons : (i : Item) (is : List Item)
    → length (literals (i ∷ is)) ≡ length (literals (i ∷ [])) + length (literals is)
literals_cons (Literal n) is = omega arith
literals_cons i is = omega arith

ends_snoc : (ops : List Op) (o : Op) → ends_word o ≡ true
    → list_any ends_word (ops ++ o ∷ []) ≡ true
ends_snoc [] o h = rw h refl
ends_snoc (p ∷ ops) o h =
    ap (λ (b : Bool). ends_word p || b) (ends_snoc ops o h) ∙ or-true (ends_word p)

-- behind the end of a word it has no more items
none_behind : (labels : Labels) (address : ℕ) (ops : List Op) (is : List Item)
    → list_any ends_word ops ≡ true → stand labels address ops is ≡ true → is ≡ []
none_behind labels address ops [] ends stands = refl
none_behind labels address ops (i ∷ is) ends stands =
    let join = (and_parts (joins labels address ops i)
    (stand labels address (ops ++ op_of i ∷ []) is) stands).0 in
    let open_word = not-true (list_any ends_word ops)
    (and_parts (not (list_any ends_word ops)) (fits labels address ops i) join).0 in
    absurd (cc)

-- the followers of a shared word are the numbers among its items
shared_followers : (labels : Labels) (address : ℕ) (ops : List Op) (is : List Item)
    → list_all is_item is ≡ true → stand labels address ops is ≡ true
    → followers (ops_of is) ≡ length (literals is)
shared_followers labels address ops [] right stands = refl
shared_followers labels address ops (i ∷ is) right stands =
    let o = op_of i in
    let rights = and_parts (is_item i) (list_all is_item is) right in
    let parts =
    and_parts (joins labels address ops i) (stand labels address (ops ++ o ∷ []) is) stands in
    let one = one_literal i rights.0 (joins_loose labels address ops i parts.0) in
    let all = literals_cons i is in
    on_test (ends_word o) (λ b. (if b then 0
    else (if is_followed o then 1 else 0) + followers (ops_of is)) ≡ length (literals (i ∷ is)))
    (λ ends.
    let none : follows i ≡ 0 = rw (ends_not_followed o ends) refl in
    let last : length (literals is) ≡ 0 = ap (λ (t : List Item). length (literals t))
    (none_behind labels address (ops ++ o ∷ []) is (ends_snoc ops o ends) parts.1) in
    omega arith)
    (λ goes. let rest = shared_followers labels address (ops ++ o ∷ []) is rights.1 parts.1 in
    omega arith)

-- ---- the order of source items

-- an item outside brackets is allowed only if no follower is missing
loose_part : (owed : ℕ) (i : Item) (p : Part) → is_loose i ≡ true
    → part_after (source.Code owed) i ≡ Some p → (owed ≡ 0) × (p ≡ source.Code 0)
unfolding part_after
loose_part zero (Instruction o) p loose e = (refl, (cc))
loose_part zero (Transfer o v) p loose e = (refl, (cc))
loose_part zero (Literal n) p loose e = (refl, (cc))
loose_part (suc owed) (Instruction o) p loose e = absurd (cc)
loose_part _ _ p loose e = absurd (cc)

loose_behind : (i : Item) (p : Part) → is_loose i ≡ true → part_after source.Behind i ≡ Some p → ⊥
unfolding part_after
loose_behind (Instruction o) p loose e = cc
loose_behind i p loose e = cc

word_part : (owed : ℕ) (ops : List Op) (p : Part)
    → part_after (source.Code owed) (Word ops) ≡ Some p
    → (owed ≡ 0) × (p ≡ source.Code (followers ops))
unfolding part_after
word_part zero ops p e = (refl, (cc))
word_part (suc owed) ops p e = absurd (cc)

word_to_part : (owed : ℕ) (ops : List Op) (o : Op) (v : Value) (spare : Option ℕ) (p : Part)
    → part_after (source.Code owed) (WordTo ops o v spare) ≡ Some p
    → (owed ≡ 0) × (p ≡ source.Code (followers ops))
unfolding part_after
word_to_part zero ops o v spare p e = (refl, (cc))
word_to_part (suc owed) ops o v spare p e = absurd (cc)

plain_part : (owed : ℕ) (v : Value) (p : Part) → part_after (source.Code owed) (Plain v) ≡ Some p
    → (n : ℕ) × (owed ≡ suc n) × (p ≡ source.Code n)
unfolding part_after
plain_part zero v p e = absurd (cc)
plain_part (suc owed) v p e = (owed, refl, (cc))

align_part : (owed : ℕ) (p : Part) → part_after (source.Code owed) Align ≡ Some p
    → (owed ≡ 0) × (p ≡ source.Code 0)
unfolding part_after
align_part zero p e = (refl, (cc))
align_part (suc owed) p e = absurd (cc)

here_part : (part : Part) (s : List ℕ) (p : Part) → part_after part (Here s) ≡ Some p → p ≡ part
unfolding part_after
here_part part s p e = cc

data_part : (owed : ℕ) (p : Part) → part_after (source.Code owed) source.Data ≡ Some p
    → p ≡ source.Behind
unfolding part_after
data_part zero p e = cc
data_part (suc owed) p e = cc

plain_behind : (v : Value) (p : Part) → part_after source.Behind (Plain v) ≡ Some p
    → p ≡ source.Behind
unfolding part_after
plain_behind v p e = cc

-- items outside brackets, one behind another
record Loose (is rest : List Item) : Type 0 where
  right : list_all is_item is ≡ true
  behind : Before
  part_is : behind.part ≡ source.Code 0
  more : Items behind rest

loose_items : (is rest : List Item) (b : Before) → b.part ≡ source.Code 0
    → list_all is_loose is ≡ true → Items b (is ++ rest) → Loose is rest
unfolding Items
loose_items [] rest b part loose items =
    record { right = refl; behind = b; part_is = part; more = items }
loose_items (i ∷ is) rest b part loose (p, right, new, next, items) =
    let parts = and_parts (is_loose i) (list_all is_loose is) loose in
    let next' = subst (λ (t : Part). part_after t i ≡ Some p) part next in
    let more =
    loose_items is rest (source.after b i p) (loose_part 0 i p parts.0 next').1 parts.1 items in
    record {
      right = and_from (is_item i) (list_all is_item is) right more.right;
      behind = more.behind;
      part_is = more.part_is;
      more = more.more;
    }

all_loose : (labels : Labels) (address : ℕ) (ops : List Op) (is : List Item)
    → stand labels address ops is ≡ true → list_all is_loose is ≡ true
all_loose labels address ops [] stands = refl
all_loose labels address ops (i ∷ is) stands =
    let parts =
    and_parts (joins labels address ops i) (stand labels address (ops ++ op_of i ∷ []) is) stands in
    and_from (is_loose i) (list_all is_loose is) (joins_loose labels address ops i parts.0)
    (all_loose labels address (ops ++ op_of i ∷ []) is parts.1)

-- ---- the words of a group

follow_all : (owed left left' : ℕ) (numbers words : List ℕ) → owed ≡ length numbers
    → left ≡ length numbers + left'
    → items_from owed left (numbers ++ words) ≡ map Follower numbers ++ items_from 0 left' words
follow_all owed left left' [] words e f =
    let same : left ≡ left' = omega arith in
    ap (λ (n : ℕ). items_from n left words) e ∙ ap (λ (n : ℕ). items_from 0 n words) same
follow_all owed left left' (n ∷ numbers) words e f =
    follower_next owed (length numbers) left (length numbers + left') n
    (n ∷ (numbers ++ words)) (numbers ++ words) refl (omega arith) (omega arith)
    ∙ ap (λ (t : List ItemView). Follower n ∷ t)
    (follow_all (length numbers) (length numbers + left') left' numbers words refl refl)

-- a word of code, and its followers
word_first : (word left left' : ℕ) (ops : List Op) (dest : Option ℕ) (spare owed : ℕ)
    (words : List ℕ) → IsWord word ops dest spare → left ≡ suc left' → owed ≡ followers ops
    → items_from 0 left (word ∷ words) ≡ named.code ops dest spare ∷ items_from owed left' words
word_first word left left' ops dest spare owed words is e same =
    code_next 0 owed left left' word (word ∷ words) words
    (record { ops = with_fillers ops dest; dest = dest; spare = spare }) refl refl e
    (reading_is is.below is.reads) (same ∙ sym (followers-with_fillers ops dest))

end_behind : (address : ℕ) (groups : List Group) → address ≤ code_end address groups
end_behind address [] = omega arith
end_behind address (Shared i is ∷ groups) =
    let h = end_behind (address + size (Shared i is)) groups in omega arith
end_behind address (Alone source.Data ∷ groups) = omega arith
end_behind address (Alone i ∷ groups) =
    let h = end_behind (address + size (Alone i)) groups in omega arith

-- ---- behind the code part

data_named : (labels before : Labels) (address owed : ℕ) (b : Before) (groups : List Group)
    (words : List ℕ) → b.part ≡ source.Behind → Items b (items_of groups)
    → Arrangement before address groups → Words labels groups words
    → items_from owed 0 words ≡ named.items_in labels true groups
unfolding Items Arrangement Words GroupWords items_from part_after
data_named labels before address owed b [] words part items arranged none =
    ap (items_from owed 0) none
data_named labels before address owed b (Shared i is ∷ groups) words part
    (p, right, new, next, items) arranged made =
    let loose = (and_parts (is_loose i) (list_all is_loose is)
    (all_loose before address [] (i ∷ is) arranged.0)).0 in
    absurd (loose_behind i p loose (subst (λ (t : Part). part_after t i ≡ Some p) part next))
data_named labels before address owed b (Alone (Plain v) ∷ groups) words part
    (p, right, new, next, items) arranged (first, others, is, more, e) =
    let behind =
    plain_behind v p (subst (λ (t : Part). part_after t (Plain v) ≡ Some p) part next) in
    let all : words ≡ value_number labels v ∷ others = e ∙ ap (λ (t : List ℕ). t ++ others) is in
    data_next owed owed 0 0 (value_number labels v) words others all refl refl refl
    ∙ ap (λ (t : List ItemView). Data (value_number labels v) ∷ t) (data_named labels before
    (address + 1) owed (source.after b (Plain v) p) groups others behind items arranged.1 more)
data_named labels before address owed b (Alone (Here s) ∷ groups) words part
    (p, right, new, next, items) arranged (first, others, is, more, e) =
    let behind = here_part b.part s p next ∙ part in
    let all : words ≡ others = e ∙ ap (λ (t : List ℕ). t ++ others) is in
    ap (items_from owed 0) all ∙ data_named labels (labels_behind before address (Alone (Here s)))
    (address + 0) owed (source.after b (Here s) p) groups others behind items arranged.1 more
data_named labels before address owed b (Alone i ∷ groups) words part items arranged made =
    absurd (let alone = arranged.0 in let next = items.3 in cc)

-- ---- in the code part

code_named : (labels before : Labels) (address owed left : ℕ) (b : Before) (groups : List Group)
    (words : List ℕ) → b.part ≡ source.Code owed → Items b (items_of groups)
    → Arrangement before address groups → Words labels groups words
    → code_end address groups ≡ address + left
    → items_from owed left words ≡ named.items_in labels false groups
unfolding Items Arrangement Words GroupWords items_from
code_named labels before address owed left b [] words part items arranged none end =
    ap (items_from owed left) none
code_named labels before address owed left b (Shared i is ∷ groups) words part items arranged
    (first, others, (word, is_word, cut), more, e) end =
    let (p, right, new, next, behind) = items in
    let loose = all_loose before address [] (i ∷ is) arranged.0 in
    let here = loose_part owed i p (and_parts (is_loose i) (list_all is_loose is) loose).0
    (subst (λ (t : Part). part_after t i ≡ Some p) part next) in
    let none = here.0 in
    let all = loose_items (i ∷ is) (items_of groups) b (part ∙ ap source.Code none) loose items in
    let numbers = literals (i ∷ is) in
    let follow = shared_followers before address [] (i ∷ is) all.right arranged.0 in
    let reach = end_behind (address + size (Shared i is)) groups in
    let rest : ℕ = left - (1 + length numbers) in
    let words_are : words ≡ word ∷ (numbers ++ others) = e ∙ ap (λ (t : List ℕ). t ++ others) cut in
    ap (items_from owed left) words_are
    ∙ ap (λ (n : ℕ). items_from n left (word ∷ (numbers ++ others))) none
    ∙ word_first word left (length numbers + rest) (ops_of (i ∷ is)) (last_dest labels 0 (i ∷ is)) 0
    (length numbers) (numbers ++ others) is_word (omega arith) (sym follow)
    ∙ ap (λ (t : List ItemView). named.code (ops_of (i ∷ is)) (last_dest labels 0 (i ∷ is)) 0 ∷ t)
    (follow_all (length numbers) (length numbers + rest) rest numbers others refl refl
    ∙ ap (λ (t : List ItemView). map Follower numbers ++ t)
    (code_named labels before (address + size (Shared i is)) 0 rest all.behind groups others
    all.part_is all.more arranged.2 more (omega arith)))
code_named labels before address owed left b (Alone (Word ops) ∷ groups) words part
    (p, right, new, next, behind) arranged (first, others, (word, is_word, cut), more, e) end =
    let here =
    word_part owed ops p (subst (λ (t : Part). part_after t (Word ops) ≡ Some p) part next) in
    let reach = end_behind (address + 1) groups in
    let rest : ℕ = left - 1 in
    ap (items_from owed left) (e ∙ ap (λ (t : List ℕ). t ++ others) cut)
    ∙ ap (λ (n : ℕ). items_from n left (word ∷ others)) here.0
    ∙ word_first word left rest ops None 0 (followers ops) others is_word (omega arith) refl
    ∙ ap (λ (t : List ItemView). named.code ops None 0 ∷ t)
    (code_named labels before (address + 1) (followers ops) rest
    (source.after b (Word ops) p) groups others here.1 behind arranged.1 more (omega arith))
code_named labels before address owed left b (Alone (WordTo ops o v spare) ∷ groups) words part
    (p, right, new, next, behind) arranged (first, others, (word, is_word, cut), more, e) end =
    let here = word_to_part owed ops o v spare p
    (subst (λ (t : Part). part_after t (WordTo ops o v spare) ≡ Some p) part next) in
    let reach = end_behind (address + 1) groups in
    let rest : ℕ = left - 1 in
    let dest = dest_in labels (length ops) v in
    ap (items_from owed left) (e ∙ ap (λ (t : List ℕ). t ++ others) cut)
    ∙ ap (λ (n : ℕ). items_from n left (word ∷ others)) here.0
    ∙ word_first word left rest (ops ++ o ∷ []) (Some dest) (unwrap_or spare 0)
    (followers ops) others is_word (omega arith)
    (sym (followers-last ops o (takes_ends o (word_to_parts ops o v spare right).dest)))
    ∙ ap (λ (t : List ItemView). named.code (ops ++ o ∷ []) (Some dest) (unwrap_or spare 0) ∷ t)
    (code_named labels before (address + 1) (followers ops) rest (source.after b
    (WordTo ops o v spare) p) groups others here.1 behind arranged.1 more (omega arith))
code_named labels before address owed left b (Alone (Plain v) ∷ groups) words part
    (p, right, new, next, behind) arranged (first, others, cut, more, e) end =
    let (n, some, is) =
    plain_part owed v p (subst (λ (t : Part). part_after t (Plain v) ≡ Some p) part next) in
    let reach = end_behind (address + 1) groups in
    let rest : ℕ = left - 1 in
    follower_next owed n left rest (value_number labels v) words others
    (e ∙ ap (λ (t : List ℕ). t ++ others) cut) some (omega arith)
    ∙ ap (λ (t : List ItemView). Follower (value_number labels v) ∷ t)
    (code_named labels before (address + 1) n rest
    (source.after b (Plain v) p) groups others is behind arranged.1 more (omega arith))
code_named labels before address owed left b (Alone (Here s) ∷ groups) words part
    (p, right, new, next, behind) arranged (first, others, cut, more, e) end =
    ap (items_from owed left) (e ∙ ap (λ (t : List ℕ). t ++ others) cut)
    ∙ code_named labels (labels_behind before address (Alone (Here s))) (address + 0) owed left
    (source.after b (Here s) p) groups others
    (here_part b.part s p next ∙ part) behind arranged.1 more (end ∙ omega arith)
code_named labels before address owed left b (Alone Align ∷ groups) words part
    (p, right, new, next, behind) arranged (first, others, cut, more, e) end =
    let here = align_part owed p (subst (λ (t : Part). part_after t Align ≡ Some p) part next) in
    ap (items_from owed left) (e ∙ ap (λ (t : List ℕ). t ++ others) cut)
    ∙ ap (λ (n : ℕ). items_from n left others) here.0
    ∙ code_named labels before (address + 0) 0 left
    (source.after b Align p) groups others here.1 behind arranged.1 more (end ∙ omega arith)
code_named labels before address owed left b (Alone source.Data ∷ groups) words part
    (p, right, new, next, behind) arranged (first, others, cut, more, e) end =
    let here =
    data_part owed p (subst (λ (t : Part). part_after t source.Data ≡ Some p) part next) in
    let none : left ≡ 0 = omega arith in
    ap (items_from owed left) (e ∙ ap (λ (t : List ℕ). t ++ others) cut)
    ∙ ap (λ (n : ℕ). items_from owed n others) none
    ∙ data_named labels before (address + 0) owed
    (source.after b source.Data p) groups others here behind arranged.1 more
code_named labels before address owed left b (Alone i ∷ groups) words part items arranged made end =
    absurd (let alone = arranged.0 in cc)

-- the items of words are those that their layout names
pub items_named : (source : List Item) (words : List ℕ) (labels : Labels) (code_len : ℕ)
    → Items start source → (laid : Laid source words labels code_len)
    → items_from 0 code_len words ≡ named_items labels laid.groups
unfolding named_items
items_named source words labels code_len right laid =
    code_named labels [] 0 0 code_len start laid.groups words refl
    (subst (Items start) (sym laid.stand_in.in_order) right) laid.stand_in.arranged laid.words_are
    (let e = laid.code_is in omega arith)
