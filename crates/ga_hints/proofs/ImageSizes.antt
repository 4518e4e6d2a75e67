-- The size of items that have an image.
use Rattle.std.proofs.Common.{◌≡◌, ◌∙◌, ◌+◌, ◌-◌, ◌&&◌, ◌++◌, ℕ, Bool, true, false, List, [], ◌∷◌, Option, Some, None, length, fold, not, append-nil, append_assoc, refl, sym, ap, subst, arith, if◌then◌else◌}
use Rattle.std.specs.List.{list_any}
use Rattle.std.specs.Option.{is_some, option_or, unwrap_or}
use Rattle.std.specs.Str.{bytes_eq}
use Rattle.std.proofs.lemmas.Bool.{and_parts}
use Rattle.std.proofs.lemmas.List.{length-append}
use Rattle.std.proofs.lemmas.List.Sums.{fold-append}
use Rattle.std.proofs.lemmas.Slice.Eq.{bytes_eq-Decides}
use Rattle.ga_word.specs.declared.op.Op.{Op}
use Rattle.ga_word.specs.Op.{ends_word}
use Rattle.ga_pack.specs.Model.Layout.{Labels, Group, Shared, Alone, Arrangement, Words, address_after, address_of, code_end, fits, is_loose, items_of, joins, labels_behind, literals, may_reach, more_join, op_of, ops_of, p_behind, size, stand}
use Rattle.ga_pack.specs.Model.LayoutFault.{words_added}
use Rattle.ga_pack.specs.Model.Source.{Item, Here, Instruction, Label, Literal, Transfer, Align, Word, WordTo, Plain, Data}
use Rattle.ga_asm.specs.inner.Layout.{data_at}
use Rattle.ga_pack.proofs.OneLayout.{joins_loose}
use Rattle.ga_asm.proofs.Groups.{group_length, shared_loose}
use Rattle.ga_hints.specs.Laws.{SizesOfImages}
use Rattle.ga_hints.specs.Size.{Open, Sizing, data_after, is_data, joins_open, labels_with, open_after, size_in, size_of, unsized, with_item}

-- ---- labels with the same addresses

abbrev AreSame : Labels → Labels → Type 0
AreSame labels others = (name : List ℕ) → address_of labels name ≡ address_of others name

abbrev last_of : Option ℕ → Bool → ℕ → Option ℕ
last_of found is address = option_or found (if is then Some address else None)

last_by : (b : Bool) (at : ℕ) (found rest : Option ℕ) (is : Bool) (address : ℕ)
    → rest ≡ last_of found is address
    → (if b then Some at else rest) ≡ last_of (if b then Some at else found) is address
last_by true at found rest is address e = refl
last_by false at found rest is address e = e

-- one more label is found if none before it has the name
address_last : (labels : Labels) (s name : List ℕ) (address : ℕ)
    → address_of (labels ++ (s, address) ∷ []) name
    ≡ last_of (address_of labels name) (bytes_eq name s) address
address_last [] s name address = refl
address_last (label ∷ labels) s name address =
    last_by (bytes_eq name label.0) label.1 (address_of labels name) _ (bytes_eq name s) address
    (address_last labels s name address)

-- a label that has an address keeps it
kept_same : (found : Option ℕ) (is : Bool) (address : ℕ) → (is ≡ true → is_some found ≡ true)
    → found ≡ last_of found is address
kept_same (Some at) is address has = refl
kept_same None false address has = refl
kept_same None true address has = absurd (let none = has refl in cc)

defined_by : (labels others : Labels) (s : List ℕ) (address : ℕ) → AreSame labels others
    → (b : Bool) → is_some (address_of labels s) ≡ b
    → AreSame (if b then labels else labels ++ (s, address) ∷ []) (others ++ (s, address) ∷ [])
defined_by labels others s address same true has name =
    let found = same name in
    kept_same (address_of labels name) (bytes_eq name s) address
    (λ is. ap (λ t. is_some (address_of labels t)) ((bytes_eq-Decides name s).0 is) ∙ has)
    ∙ ap (λ t. last_of t (bytes_eq name s) address) found ∙ sym (address_last others s name address)
defined_by labels others s address same false has name =
    address_last labels s name address
    ∙ ap (λ t. last_of t (bytes_eq name s) address) (same name)
    ∙ sym (address_last others s name address)

with_same : (labels others : Labels) (address : ℕ) (i : Item) → AreSame labels others
    → AreSame (labels_with labels address i) (labels_behind others address (Alone i))
with_same labels others address (Here s) same =
    defined_by labels others s address same (is_some (address_of labels s)) refl
with_same labels others address i same = same

fits_same : (labels others : Labels) (address : ℕ) (ops : List Op) (i : Item)
    → AreSame labels others → fits labels address ops i ≡ fits others address ops i
unfolding fits
fits_same labels others address ops (Transfer o (Label s)) same =
    ap (may_reach (length ops) (p_behind address ops)) (same s)
fits_same labels others address ops i same = refl

joins_same : (labels others : Labels) (address : ℕ) (ops : List Op) (i : Item)
    → AreSame labels others → joins labels address ops i ≡ joins others address ops i
joins_same labels others address ops i same =
    ap (λ b. not (list_any ends_word ops) && b) (fits_same labels others address ops i same)

-- ---- one more item

abbrev at_word : Labels → ℕ → Open → Option ℕ → Sizing
at_word labels address word start =
    record { labels = labels; address = address; open_word = word; data_start = start }

start_kept : (start : Option ℕ) → option_or start None ≡ start
start_kept None = refl
start_kept (Some at) = refl

-- what an item outside brackets does, which joins the open word or not
abbrev loose_step : Labels → ℕ → Open → Option ℕ → Item → Bool → Sizing
loose_step labels address word start i joined = record {
  labels = labels;
  address = address + words_added joined i;
  open_word = open_after joined word address i;
  data_start = start;
}

loose_item : (labels : Labels) (address : ℕ) (word : Open) (start : Option ℕ) (i : Item)
    → is_loose i ≡ true → with_item (at_word labels address word start) i
    ≡ loose_step labels address word start i (joins_open labels word i)
loose_item labels address word start (Instruction o) loose =
    ap (λ d. record (loose_step labels address word start (Instruction o)
    (joins_open labels word (Instruction o))) { data_start = d }) (start_kept start)
loose_item labels address word start (Transfer o v) loose =
    ap (λ d. record (loose_step labels address word start (Transfer o v)
    (joins_open labels word (Transfer o v))) { data_start = d }) (start_kept start)
loose_item labels address word start (Literal n) loose =
    ap (λ d. record (loose_step labels address word start (Literal n)
    (joins_open labels word (Literal n))) { data_start = d }) (start_kept start)
loose_item labels address word start i loose = absurd (cc)

-- it joins the word
joined_item : (labels : Labels) (address at : ℕ) (ops : List Op) (start : Option ℕ) (i : Item)
    → joins labels at ops i ≡ true
    → with_item (at_word labels address (Some (at, ops)) start) i
    ≡ at_word labels (address + length (literals (i ∷ []))) (Some (at, ops ++ op_of i ∷ [])) start
joined_item labels address at ops start i joined =
    let added : words_added true i ≡ length (literals (i ∷ [])) = omega arith in
    loose_item labels address (Some (at, ops)) start i (joins_loose labels at ops i joined)
    ∙ ap (loose_step labels address (Some (at, ops)) start i) joined
    ∙ ap (λ n. at_word labels (address + n) (Some (at, ops ++ op_of i ∷ [])) start) added

-- it begins a word
opened_by : (i : Item) → is_loose i ≡ true → words_added false i ≡ 1 + length (literals (i ∷ []))
opened_by (Instruction o) loose = refl
opened_by (Transfer o v) loose = refl
opened_by (Literal n) loose = refl
opened_by i loose = absurd (cc)

opened_item : (labels : Labels) (address : ℕ) (word : Open) (start : Option ℕ) (i : Item)
    → is_loose i ≡ true → joins_open labels word i ≡ false
    → with_item (at_word labels address word start) i
    ≡ at_word labels (address + (1 + length (literals (i ∷ []))))
    (Some (address, op_of i ∷ [])) start
opened_item labels address word start i loose apart =
    loose_item labels address word start i loose
    ∙ ap (loose_step labels address word start i) apart
    ∙ ap (λ b. at_word labels (address + words_added false i)
    (if b then Some (address, op_of i ∷ []) else None) start) loose
    ∙ ap (λ n. at_word labels (address + n) (Some (address, op_of i ∷ [])) start)
    (opened_by i loose)

-- an item that shares no word
never_joins : (labels : Labels) (word : Open) (i : Item) → is_loose i ≡ false
    → (b : Bool) → joins_open labels word i ≡ b → b ≡ false
never_joins labels word i alone false is = refl
never_joins labels None i alone true is = sym is
never_joins labels (Some (at, ops)) i alone true is =
    sym (joins_loose labels at ops i is) ∙ alone

alone_by : (i : Item) → is_loose i ≡ false → words_added false i ≡ size (Alone i)
alone_by (Instruction o) alone = absurd (cc)
alone_by (Transfer o v) alone = absurd (cc)
alone_by (Literal n) alone = absurd (cc)
alone_by (Here s) alone = refl
alone_by Align alone = refl
alone_by (Word ops) alone = refl
alone_by (WordTo ops o v spare) alone = refl
alone_by (Plain v) alone = refl
alone_by Data alone = refl

alone_item : (labels : Labels) (address : ℕ) (word : Open) (start : Option ℕ) (i : Item)
    → is_loose i ≡ false → with_item (at_word labels address word start) i
    ≡ at_word (labels_with labels address i) (address + size (Alone i)) None
    (data_after start address i)
alone_item labels address word start i alone =
    let apart = never_joins labels word i alone (joins_open labels word i) refl in
    ap (λ joined. record {
      labels = labels_with labels address i;
      address = address + words_added joined i;
      open_word = open_after joined word address i;
      data_start = data_after start address i;
    }) apart
    ∙ ap (λ b. at_word (labels_with labels address i) (address + words_added false i)
    (if b then Some (address, op_of i ∷ []) else None) (data_after start address i)) alone
    ∙ ap (λ n. at_word (labels_with labels address i) (address + n) None
    (data_after start address i)) (alone_by i alone)

-- ---- the items of a group

literals_cons : (i : Item) (is : List Item)
    → length (literals (i ∷ is)) ≡ length (literals (i ∷ [])) + length (literals is)
literals_cons (Literal n) is = omega arith
literals_cons i is = omega arith

-- items that share a word with those before them
shared_items : (is : List Item) (labels others : Labels) (address at : ℕ) (ops : List Op)
    (start : Option ℕ) → AreSame labels others → stand others at ops is ≡ true
    → fold with_item (at_word labels address (Some (at, ops)) start) is
    ≡ at_word labels (address + length (literals is)) (Some (at, ops ++ ops_of is)) start
shared_items [] labels others address at ops start same stands =
    let none : address ≡ address + 0 = omega arith in
    ap (λ n. at_word labels n (Some (at, ops)) start) none
    ∙ ap (λ os. at_word labels (address + 0) (Some (at, os)) start) (sym (append-nil ops))
shared_items (i ∷ is) labels others address at ops start same stands =
    let parts = and_parts (joins others at ops i) (stand others at (ops ++ op_of i ∷ []) is) stands
    in
    let joined = joins_same labels others at ops i same ∙ parts.0 in
    let more = length (literals (i ∷ [])) in
    let sum : address + more + length (literals is) ≡ address + length (literals (i ∷ is)) =
    omega (arith, literals_cons i is) in
    ap (λ now. fold with_item now is) (joined_item labels address at ops start i joined)
    ∙ shared_items is labels others (address + more) at (ops ++ op_of i ∷ []) start same parts.1
    ∙ ap (λ n. at_word labels n (Some (at, ops ++ op_of i ∷ [] ++ ops_of is)) start) sum
    ∙ ap (λ os. at_word labels (address + length (literals (i ∷ is))) (Some (at, os)) start)
    (append_assoc ops (op_of i ∷ []) (ops_of is))

-- the next item joins no word
abbrev is_apart : Labels → Open → List Item → Bool
is_apart labels word [] = false
is_apart labels word (i ∷ is) = joins_open labels word i

group_items : (labels others : Labels) (address : ℕ) (word : Open) (start : Option ℕ) (i : Item)
    (is : List Item) → AreSame labels others → joins_open labels word i ≡ false
    → stand others address [] (i ∷ is) ≡ true
    → fold with_item (at_word labels address word start) (i ∷ is)
    ≡ at_word labels (address + size (Shared i is)) (Some (address, ops_of (i ∷ is))) start
group_items labels others address word start i is same apart stands =
    let parts = and_parts (joins others address [] i) (stand others address (op_of i ∷ []) is)
    stands in
    let first = 1 + length (literals (i ∷ [])) in
    let sum : address + first + length (literals is) ≡ address + size (Shared i is) =
    omega (arith, literals_cons i is) in
    ap (λ now. fold with_item now is)
    (opened_item labels address word start i (shared_loose others address i is stands) apart)
    ∙ shared_items is labels others (address + first) address (op_of i ∷ []) start same parts.1
    ∙ ap (λ n. at_word labels n (Some (address, ops_of (i ∷ is))) start) sum

apart_same : (labels others : Labels) (address : ℕ) (ops : List Op) (is : List Item)
    → AreSame labels others → more_join others address ops is ≡ false
    → is_apart labels (Some (address, ops)) is ≡ false
apart_same labels others address ops [] same full = refl
apart_same labels others address ops (i ∷ is) same full =
    joins_same labels others address ops i same ∙ full

apart_none : (labels : Labels) (is : List Item) → is_apart labels None is ≡ false
apart_none labels [] = refl
apart_none labels (i ∷ is) = refl

-- ---- all items

data_by : (start : Option ℕ) (address : ℕ) (b : Bool) (rest : Option ℕ)
    → option_or (option_or start (if b then Some address else None)) rest
    ≡ option_or start (if b then Some address else rest)
data_by None address true rest = refl
data_by None address false rest = refl
data_by (Some at) address b rest = refl

abbrev Sized : Sizing → ℕ → Option ℕ → Type 0
Sized now address start = (now.address ≡ address) × (now.data_start ≡ start)

groups_sized : (groups : List Group) (labels others : Labels) (address : ℕ) (word : Open)
    (start : Option ℕ) → AreSame labels others → is_apart labels word (items_of groups) ≡ false
    → Arrangement others address groups
    → Sized (fold with_item (at_word labels address word start) (items_of groups))
    (address_after address groups) (option_or start (data_at address groups))
unfolding Arrangement
groups_sized [] labels others address word start same apart arranged =
    (refl, sym (start_kept start))
groups_sized (Shared i is ∷ groups) labels others address word start same apart arranged =
    let behind = address + size (Shared i is) in
    let now = at_word labels behind (Some (address, ops_of (i ∷ is))) start in
    let whole = fold-append with_item (at_word labels address word start) (i ∷ is) (items_of groups)
    ∙ ap (λ s. fold with_item s (items_of groups))
    (group_items labels others address word start i is same apart arranged.0) in
    let rest = groups_sized groups labels others behind (Some (address, ops_of (i ∷ is))) start same
    (apart_same labels others address (ops_of (i ∷ is)) (items_of groups) same arranged.1)
    arranged.2 in
    subst (λ s. Sized s (address_after behind groups) (option_or start (data_at behind groups)))
    (sym whole) rest
groups_sized (Alone i ∷ groups) labels others address word start same apart arranged =
    let behind = address + size (Alone i) in
    let more = data_after start address i in
    let whole = ap (λ s. fold with_item s (items_of groups))
    (alone_item labels address word start i arranged.0) in
    let rest = groups_sized groups (labels_with labels address i)
    (labels_behind others address (Alone i)) behind None more
    (with_same labels others address i same)
    (apart_none (labels_with labels address i) (items_of groups)) arranged.1 in
    let start_is = data_by start address (is_data i) (data_at behind groups) in
    subst (λ d. Sized (fold with_item (at_word labels address word start) (i ∷ items_of groups))
    (address_after behind groups) d) start_is
    (subst (λ s. Sized s (address_after behind groups) (option_or more (data_at behind groups)))
    (sym whole) rest)

code_is : (address : ℕ) (groups : List Group)
    → code_end address groups
    ≡ unwrap_or (data_at address groups) (address_after address groups)
code_is address [] = refl
code_is address (Shared i is ∷ groups) = code_is (address + size (Shared i is)) groups
code_is address (Alone Data ∷ groups) = refl
code_is address (Alone i ∷ groups) = code_is (address + size (Alone i)) groups

behind_group : (before : Labels) (address : ℕ) (g : Group) (groups : List Group)
    → Arrangement before address (g ∷ groups)
    → Arrangement (labels_behind before address g) (address + size g) groups
unfolding Arrangement
behind_group before address (Shared i is) groups arranged = arranged.2
behind_group before address (Alone i) groups arranged = arranged.1

words_count : (groups : List Group) (before labels : Labels) (address : ℕ) (words : List ℕ)
    → Arrangement before address groups → Words labels groups words
    → address + length words ≡ address_after address groups
unfolding Words
words_count [] before labels address words arranged none =
    let empty = ap length none in omega arith
words_count (g ∷ groups) before labels address words arranged (front, back, here, more, e) =
    let first = group_length before labels address g groups front arranged here in
    let rest = words_count groups (labels_behind before address g) labels (address + size g) back
    (behind_group before address g groups arranged) more in
    let whole = ap length e ∙ length-append front back in
    let sum : address + length words ≡ address + size g + length back = omega arith in
    sum ∙ rest

pub image_size : SizesOfImages
unfolding size_of
image_size items image is =
    let groups = is.laid.groups in
    let arranged = is.laid.stand_in.arranged in
    let sized = groups_sized groups [] [] 0 None None (λ name. refl)
    (apart_none [] (items_of groups)) arranged in
    let count = words_count groups [] image.labels 0 image.words arranged is.laid.words_are in
    let words : address_after 0 groups ≡ length image.words = omega arith in
    let code : unwrap_or (data_at 0 groups) (address_after 0 groups) ≡ image.code_len =
    sym (code_is 0 groups) ∙ sym is.laid.code_is in
    let address = sized.0 ∙ words in
    let all = fold with_item unsized (items_of groups) in
    let code_len : unwrap_or all.data_start all.address ≡ image.code_len =
    ap (λ d. unwrap_or d all.address) sized.1
    ∙ ap (unwrap_or (data_at 0 groups)) sized.0 ∙ code in
    ap (λ xs. size_in (fold with_item unsized xs)) (sym is.laid.stand_in.in_order)
    ∙ ap (λ n. record { code = n; «data» = all.address - n }) code_len
    ∙ ap (λ n. record { code = image.code_len; «data» = n - image.code_len }) address
