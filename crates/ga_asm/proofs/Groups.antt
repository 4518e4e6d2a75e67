-- The groups of a node, and their items.
use Rattle.std.proofs.Common.{◌≡◌, ◌∙◌, ◌<◌, ◌≤◌, ℕ, suc, ◌+◌, ◌-◌, true, false, List, [], ◌∷◌, ◌++◌, length, map, drop, take, get_or, Option, Some, None, refl, sym, ap, subst, append_assoc, append-nil, length-append, arith}
use Rattle.std.proofs.Math.Seq.{drop-append_seam, drop-cons, take-append_seam}
use Rattle.std.proofs.Math.ListN.{drop_of_length-le}
use Rattle.std.proofs.lemmas.Bool.{and_from, and_parts, both_ways}
use Rattle.std.proofs.lemmas.List.{drop-map, take-map}
use Rattle.std.specs.Prelude.{if◌then◌else◌}
use Rattle.std.specs.List.{list_all}
use Rattle.std.specs.Option.{unwrap_or}
use Rattle.ga_word.specs.declared.op.Op.{Op}
use Rattle.ga_pack.specs.Model.Layout.{Labels, Group, Shared, Alone, Arrangement, GroupWords, StandIn, Words, address_after, all_in_reach, code_end, group_in_reach, is_in_reach, is_loose, items_of, joins, labels_after, labels_behind, last_dest, names_in, op_of, ops_of, size, stand}
use Rattle.ga_pack.specs.Model.LayoutFault.{AllPass, SecondPassFault}
use Rattle.ga_pack.specs.Model.Source.{Item, Instruction, Here, Align, Word, WordTo, Plain, Data, is_item}
use Rattle.ga_pack.proofs.Encoded.{shapeless_many}
use Rattle.ga_pack.proofs.OneLayout.{joins_loose}
use Rattle.ga_pack.proofs.Packable.{packable}
use Rattle.ga_source.specs.declared.item.Item as an
use Rattle.ga_source.specs.Item.{item_of}
use Rattle.ga_asm.specs.Image.{item_count, labels_of}
use Rattle.ga_asm.specs.inner.Layout.{Placing, data_at, plain}
use Rattle.ga_asm.specs.inner.Making.{IsGroup, IsGroupBy, IsMade, IsPackable, Making, MoreWords}
use Rattle.ga_asm.specs.declared.layout.Layout as the
use Rattle.ga_asm.proofs.MakingSteps.{plain_length}
use Rattle.ga_asm.proofs.Summary.{address_grows, code_is, code_within, ops_length}
use Rattle.ga_pack.proofs.Laying.{all_defined}
use Rattle.ga_pack.proofs.ItemParts.{all_parts}
use Rattle.ga_pack.specs.declared.error_kind.AsmErrorKind.TheVariants.{OutOfReach}

-- ---- the items of a group

abbrev pub members : Group → List Item
members (Shared i is) = i ∷ is
members (Alone i) = i ∷ []

abbrev pub head_of : Group → Item
head_of (Shared i is) = i
head_of (Alone i) = i

pub items_cons : (g : Group) (gs : List Group) → items_of (g ∷ gs) ≡ members g ++ items_of gs
items_cons (Shared i is) gs = refl
items_cons (Alone i) gs = refl

pub count_members : (g : Group) → item_count g ≡ length (members g)
count_members (Shared i is) = refl
count_members (Alone i) = refl

members_some : (g : Group) → 0 < length (members g)
members_some (Shared i is) = omega arith
members_some (Alone i) = omega arith

pub items_append : (fs gs : List Group) → items_of (fs ++ gs) ≡ items_of fs ++ items_of gs
items_append [] gs = refl
items_append (Shared i is ∷ fs) gs =
    ap (λ t. i ∷ t) (ap (λ t. is ++ t) (items_append fs gs)
    ∙ sym (append_assoc is (items_of fs) (items_of gs)))
items_append (Alone i ∷ fs) gs = ap (λ t. i ∷ t) (items_append fs gs)

arranged_at : (labels : Labels) (address : ℕ) (front : List Group) (g : Group) (back : List Group)
    → Arrangement labels address (front ++ g ∷ back)
    → Arrangement (labels_after labels address front) (address_after address front) (g ∷ back)
unfolding Arrangement
arranged_at labels address [] g back arranged = arranged
arranged_at labels address (Shared i is ∷ front) g back arranged =
    arranged_at labels (address + size (Shared i is)) front g back arranged.2
arranged_at labels address (Alone i ∷ front) g back arranged =
    arranged_at (labels_behind labels address (Alone i))
    (address + size (Alone i)) front g back arranged.1

packable_few : (ops : List Op) (dest : Option ℕ) → IsPackable ops dest 0 → length ops ≤ 4
packable_few (a ∷ b ∷ c ∷ d ∷ e ∷ ops) (Some dest) h =
    absurd (let none = shapeless_many (a ∷ b ∷ c ∷ d ∷ e ∷ ops) (Some dest) 0 (omega arith) in cc)
packable_few (a ∷ b ∷ c ∷ d ∷ e ∷ ops) None h =
    absurd (let none = shapeless_many (a ∷ b ∷ c ∷ d ∷ e ∷ ops) None 0 (omega arith) in cc)
packable_few _ dest h = omega arith

pub shared_loose : (labels : Labels) (address : ℕ) (i : Item) (is : List Item)
    → stand labels address [] (i ∷ is) ≡ true → is_loose i ≡ true
shared_loose labels address i is h =
    joins_loose labels address [] i
    (and_parts (joins labels address [] i) (stand labels address (op_of i ∷ []) is) h).0

group_right : (before labels : Labels) (address : ℕ) (g : Group) (back : List Group)
    → Arrangement before address (g ∷ back) → list_all is_item (members g) ≡ true
    → IsGroup labels (members g)
unfolding Arrangement IsGroup
group_right before labels address (Shared i is) back arranged right =
    let pack = packable before labels address (i ∷ is) right (omega arith) arranged.0 in
    let few = packable_few (ops_of (i ∷ is)) (last_dest labels 0 (i ∷ is)) pack in
    let e = ops_length (i ∷ is) in
    let short : length (i ∷ is) ≤ 4 = omega arith in
    subst (λ b. IsGroupBy labels b i is) (sym (shared_loose before address i is arranged.0))
    (short, pack)
group_right before labels address (Alone i) back arranged right =
    subst (λ b. IsGroupBy labels b i []) (sym arranged.0) (and_parts (is_item i) true right).0

-- ---- the words of a group

abbrev Made : Labels → Group → List ℕ → List ℕ → Type 0
Made labels g words more = (new : List ℕ) × GroupWords labels g new × (more ≡ words ++ new)

group_made : (before labels : Labels) (address : ℕ) (g : Group) (back : List Group)
    (words more : List ℕ) → Arrangement before address (g ∷ back)
    → MoreWords labels (members g) words more → Made labels g words more
unfolding Arrangement MoreWords
group_made before labels address (Shared i is) back words more arranged made =
    subst (λ b. Made labels (if b then Shared i is else Alone i) words more)
    (shared_loose before address i is arranged.0) made
group_made before labels address (Alone i) back words more arranged made =
    subst (λ b. Made labels (if b then Shared i [] else Alone i) words more) arranged.0 made

words_snoc : (labels : Labels) (front : List Group) (g : Group) (words new : List ℕ)
    → Words labels front words → GroupWords labels g new
    → Words labels (front ++ g ∷ []) (words ++ new)
unfolding Words
words_snoc labels [] g words new none here =
    (new, [], here, refl, ap (λ t. t ++ new) none ∙ sym (append-nil new))
words_snoc labels (f ∷ front) g words new (first, others, made, more, e) here = (
  first,
  others ++ new,
  made,
  words_snoc labels front g others new more here,
  ap (λ t. t ++ new) e ∙ append_assoc first others new,
)

pub group_length : (before labels : Labels) (address : ℕ) (g : Group) (back : List Group)
    (words : List ℕ) → Arrangement before address (g ∷ back) → GroupWords labels g words
    → length words ≡ size g
unfolding Arrangement GroupWords
group_length before labels address (Shared i is) back words arranged (word, is_word, e) =
    let count = ap length e in omega arith
group_length before labels address (Alone (Word ops)) back words arranged (word, is_word, e) =
    ap length e
group_length before labels address (Alone (WordTo ops o v spare)) back words arranged
    (word, is_word, e) =
    ap length e
group_length before labels address (Alone (Plain v)) back words arranged e = ap length e
group_length before labels address (Alone (Here s)) back words arranged e = ap length e
group_length before labels address (Alone Align) back words arranged e = ap length e
group_length before labels address (Alone Data) back words arranged e = ap length e
group_length before labels address (Alone i) back words arranged e =
    absurd (let alone = arranged.0 in cc)

after_snoc : (address : ℕ) (front : List Group) (g : Group)
    → address_after address (front ++ g ∷ []) ≡ address_after address front + size g
after_snoc address [] g = refl
after_snoc address (f ∷ front) g = after_snoc (address + size f) front g

reach_snoc : (labels : Labels) (address : ℕ) (front : List Group) (g : Group)
    → all_in_reach labels address front ≡ true
    → group_in_reach labels (address_after address front) g ≡ true
    → all_in_reach labels address (front ++ g ∷ []) ≡ true
reach_snoc labels address [] g near here = and_from (group_in_reach labels address g) true here refl
reach_snoc labels address (f ∷ front) g near here =
    let parts = and_parts (group_in_reach labels address f)
    (all_in_reach labels (address + size f) front) near in
    and_from (group_in_reach labels address f) (all_in_reach labels (address + size f)
    (front ++ g ∷ [])) parts.0 (reach_snoc labels (address + size f) front g parts.1 here)

pub front_within : (address : ℕ) (front back : List Group)
    → address_after address front ≤ address_after address (front ++ back)
front_within address [] back = address_grows address back
front_within address (g ∷ front) back = front_within (address + size g) front back

loose_near : (labels : Labels) (address : ℕ) (i : Item) → is_loose i ≡ true
    → is_in_reach labels address i ≡ true
loose_near labels address (Instruction o) h = cc
loose_near labels address _ h = cc

-- ---- the next group

pub record Next (items : List Item) (l : the.Layout) (counts : List ℕ) (done : ℕ) (rest : List Item)
    (words : List ℕ) : Type 0 where
  pub front : List Group
  pub group : Group
  pub back : List Group
  pub stand_in : StandIn items (front ++ group ∷ back)
  pub passed : AllPass (names_in items) [] items
  pub labels_are : labels_of l.labels.entries ≡ labels_after [] 0 (front ++ group ∷ back)
  pub address_is : l.address ≡ address_after 0 (front ++ group ∷ back)
  pub data_is : l.data_start ≡ data_at 0 (front ++ group ∷ back)
  pub few : l.address ≤ 64
  pub rest_is : rest ≡ members group ++ items_of back
  pub counts_are : drop (done + 1) l.counts.items ≡ map item_count back
  pub count_is : get_or counts done 0 ≡ length (members group)
  pub words_are : Words (labels_of l.labels.entries) front words
  pub count : length words ≡ address_after 0 front
  pub near : all_in_reach (labels_of l.labels.entries) 0 front ≡ true

next_by : (items : List Item) (l : the.Layout) (counts : List ℕ) (done : ℕ) (rest : List Item)
    (words : List ℕ) (m : Making items l done rest words) (back : List Group) → m.back ≡ back
    → counts ≡ l.counts.items → done < length counts → Next items l counts done rest words
next_by items l counts done rest words m [] e same h =
    absurd (let cut = drop-cons counts done 0 h in
    let none : drop done counts ≡ [] = ap (drop done) same ∙ m.counts_are ∙ ap (map item_count) e in
    cc)
next_by items l counts done rest words m (g ∷ back) e same h =
    let cut : drop done counts ≡ get_or counts done 0 ∷ drop (suc done) counts =
    drop-cons counts done 0 h in
    let is : drop done counts ≡ item_count g ∷ map item_count back =
    ap (drop done) same ∙ m.counts_are ∙ ap (map item_count) e in
    let first : get_or counts done 0 ≡ item_count g = cc in
    let others : drop (suc done) counts ≡ map item_count back = cc in
    let index : done + 1 ≡ suc done = omega arith in
    record {
      front = m.front;
      group = g;
      back = back;
      stand_in = subst (λ t. StandIn items (m.front ++ t)) e m.stand_in;
      passed = m.passed;
      labels_are = m.labels_are ∙ ap (λ t. labels_after [] 0 (m.front ++ t)) e;
      address_is = m.address_is ∙ ap (λ t. address_after 0 (m.front ++ t)) e;
      data_is = m.data_is ∙ ap (λ t. data_at 0 (m.front ++ t)) e;
      few = m.few;
      rest_is = m.rest_is ∙ ap items_of e ∙ items_cons g back;
      counts_are = ap (λ t. drop t l.counts.items) index ∙ ap (drop (suc done)) (sym same) ∙ others;
      count_is = first ∙ count_members g;
      words_are = m.words_are;
      count = m.count;
      near = m.near;
    }

pub next_of : (items : List Item) (l : the.Layout) (counts : List ℕ) (done : ℕ) (rest : List Item)
    (words : List ℕ) → Making items l done rest words → counts ≡ l.counts.items
    → done < length counts → Next items l counts done rest words
next_of items l counts done rest words m same h =
    next_by items l counts done rest words m m.back refl same h

module _ (items rest : List an.Item) (l : the.Layout) (counts : List ℕ) (done : ℕ) (words : List ℕ)
    (n : Next (plain items) l counts done (plain rest) words) where
  -- the items of the group, and those behind it
  pub next_room : get_or counts done 0 ≤ length rest
  next_room =
      let all = sym (plain_length rest) ∙ ap length n.rest_is
      ∙ length-append (members n.group) (items_of n.back) in
      let count = n.count_is in
      omega arith

  pub next_group : (group : List an.Item) → group ≡ take (get_or counts done 0) rest
      → plain group ≡ members n.group
  next_group group e =
      ap plain e ∙ ap (λ t. plain (take t rest)) n.count_is
      ∙ sym (take-map (λ (i : an.Item). item_of i) (length (members n.group)) rest)
      ∙ ap (take (length (members n.group))) n.rest_is
      ∙ take-append_seam (members n.group) (items_of n.back)

  pub next_behind : (behind : List an.Item) → behind ≡ drop (get_or counts done 0) rest
      → plain behind ≡ items_of n.back
  next_behind behind e =
      ap plain e ∙ ap (λ t. plain (drop t rest)) n.count_is
      ∙ sym (drop-map (λ (i : an.Item). item_of i) (length (members n.group)) rest)
      ∙ ap (drop (length (members n.group))) n.rest_is
      ∙ drop-append_seam (members n.group) (items_of n.back)

  pub next_some : (group : List an.Item) → group ≡ take (get_or counts done 0) rest
      → 0 < length group
  next_some group e =
      let count = sym (plain_length group) ∙ ap length (next_group group e) in
      let some = members_some n.group in
      omega arith

  -- how many items are before it
  whole : length items ≡ length (items_of n.front) + length rest
  whole =
      sym (plain_length items) ∙ sym (ap length n.stand_in.in_order)
      ∙ ap length (items_append n.front (n.group ∷ n.back))
      ∙ length-append (items_of n.front) (items_of (n.group ∷ n.back))
      ∙ ap (λ t. length (items_of n.front) + length t) (items_cons n.group n.back ∙ sym n.rest_is)
      ∙ ap (λ t. length (items_of n.front) + t) (plain_length rest)

  pub next_within : length rest ≤ length items
  next_within = let all = whole in omega arith

  pub next_at : length items - length rest < length items
  next_at =
      let all = whole in
      let some = members_some n.group in
      let count = n.count_is in
      let room = next_room in
      omega arith

  -- its address
  pub next_near : length words ≤ 64
  next_near =
      let count = n.count in
      let within = front_within 0 n.front (n.group ∷ n.back) in
      let address = n.address_is in
      let few = n.few in
      omega arith

  arranged : Arrangement (labels_after [] 0 n.front) (address_after 0 n.front) (n.group ∷ n.back)
  arranged = arranged_at [] 0 n.front n.group n.back n.stand_in.arranged

  pub next_is_group : list_all is_item (plain items) ≡ true → (group : List an.Item)
      → group ≡ take (get_or counts done 0) rest
      → IsGroup (labels_of l.labels.entries) (plain group)
  next_is_group right group e =
      let all = sym n.stand_in.in_order ∙ items_append n.front (n.group ∷ n.back) in
      let right' = subst (λ t. list_all is_item t ≡ true) all right in
      let behind = subst (λ t. list_all is_item t ≡ true) (items_cons n.group n.back)
      (all_parts (items_of n.front) (items_of (n.group ∷ n.back)) right').1 in
      let here = (all_parts (members n.group) (items_of n.back) behind).0 in
      subst (IsGroup (labels_of l.labels.entries)) (sym (next_group group e))
      (group_right (labels_after [] 0 n.front) (labels_of l.labels.entries)
      (address_after 0 n.front) n.group n.back arranged here)

  next_head : (group : List an.Item) (d : an.Item) → group ≡ take (get_or counts done 0) rest
      → item_of (get_or group 0 d) ≡ head_of n.group
  next_head [] d e = absurd (let some = next_some [] e in omega arith)
  next_head (i ∷ group) d e = by n.group (next_group (i ∷ group) e)
    where
      by : (g : Group) → plain (i ∷ group) ≡ members g → item_of i ≡ head_of g
      by (Shared j js) h = cc
      by (Alone j) h = cc

  -- a name in it that is out of reach
  far_by : (g : Group) → n.group ≡ g
      → is_in_reach (labels_of l.labels.entries) (length words) (head_of g) ≡ false
      → SecondPassFault (plain items) (length items - length rest) OutOfReach
  unfolding Arrangement
  far_by (Shared i is) e far =
      let stands = subst (λ t. Arrangement (labels_after [] 0 n.front) (address_after 0 n.front)
      (t ∷ n.back)) e arranged in
      let loose =
      shared_loose (labels_after [] 0 n.front) (address_after 0 n.front) i is stands.0 in
      absurd (both_ways (is_in_reach (labels_of l.labels.entries) (length words) i) far
      (loose_near (labels_of l.labels.entries) (length words) i loose))
  far_by (Alone i) e far = record {
    passed = n.passed;
    front = n.front;
    item = i;
    back = n.back;
    stand_in = subst (λ t. StandIn (plain items) (n.front ++ t ∷ n.back)) e n.stand_in;
    front_near = subst (λ t. all_in_reach t 0 n.front ≡ true) (n.labels_are
        ∙ ap (λ t. labels_after [] 0 (n.front ++ t ∷ n.back)) e) n.near;
    item_far =
        subst (λ t. is_in_reach t (address_after 0 n.front) i ≡ false) (n.labels_are
        ∙ ap (λ t. labels_after [] 0 (n.front ++ t ∷ n.back)) e)
        (subst (λ t. is_in_reach (labels_of l.labels.entries) t i ≡ false) n.count far);
    at_is = (let all = whole in omega arith);
    kind_is = refl;
  }

  pub next_far : (group : List an.Item) (d : an.Item) → group ≡ take (get_or counts done 0) rest
      → is_in_reach (labels_of l.labels.entries) (length words) (item_of (get_or group 0 d)) ≡ false
      → SecondPassFault (plain items) (length items - length rest) OutOfReach
  next_far group d e far =
      far_by n.group refl (subst (λ t. is_in_reach (labels_of l.labels.entries) (length words) t
      ≡ false) (next_head group d e) far)

  near_by : (g : Group) → is_in_reach (labels_of l.labels.entries) (length words) (head_of g) ≡ true
      → group_in_reach (labels_of l.labels.entries) (length words) g ≡ true
  near_by (Shared i is) near = refl
  near_by (Alone i) near = near

  -- its words are made
  pub next_made : (group behind : List an.Item) (d : an.Item) (more : List ℕ)
      → group ≡ take (get_or counts done 0) rest → behind ≡ drop (get_or counts done 0) rest
      → is_in_reach (labels_of l.labels.entries) (length words) (item_of (get_or group 0 d)) ≡ true
      → MoreWords (labels_of l.labels.entries) (plain group) words more
      → Making (plain items) l (done + 1) (plain behind) more
  next_made group behind d more e f near made =
      let labels = labels_of l.labels.entries in
      let made' = subst (λ t. MoreWords labels t words more) (next_group group e) made in
      let here = group_made (labels_after [] 0 n.front) labels
      (address_after 0 n.front) n.group n.back words more arranged made' in
      let near' = near_by n.group
      (subst (λ t. is_in_reach labels (length words) t ≡ true) (next_head group d e) near) in
      let regroup : n.front ++ n.group ∷ n.back ≡ (n.front ++ n.group ∷ []) ++ n.back =
      sym (append_assoc n.front (n.group ∷ []) n.back) in
      let size_is = group_length (labels_after [] 0 n.front) labels
      (address_after 0 n.front) n.group n.back here.0 arranged here.1 in
      record {
        front = n.front ++ n.group ∷ [];
        back = n.back;
        stand_in = subst (StandIn (plain items)) regroup n.stand_in;
        passed = n.passed;
        labels_are = n.labels_are ∙ ap (labels_after [] 0) regroup;
        address_is = n.address_is ∙ ap (address_after 0) regroup;
        data_is = n.data_is ∙ ap (data_at 0) regroup;
        few = n.few;
        rest_is = next_behind behind f;
        counts_are = n.counts_are;
        words_are = subst (Words labels (n.front ++ n.group ∷ [])) (sym here.2)
            (words_snoc labels n.front n.group words here.0 n.words_are here.1);
        count =
            ap length here.2 ∙ length-append words here.0 ∙ ap (λ t. t + length here.0) n.count
            ∙ ap (λ t. address_after 0 n.front + t) size_is
            ∙ sym (after_snoc 0 n.front n.group);
        near = reach_snoc labels 0 n.front n.group n.near
            (subst (λ t. group_in_reach labels t n.group ≡ true) n.count near');
      }

-- ---- the beginning and the end

pub making_none : (items : List Item) (l : the.Layout) (words : List ℕ) → Placing items l
    → words ≡ [] → Making items l 0 items words
unfolding Words
making_none items l words p none = record {
  front = [];
  back = p.groups;
  stand_in = p.stand_in;
  passed = p.passed;
  labels_are = p.labels_are;
  address_is = p.address_is;
  data_is = p.data_is;
  few = p.few;
  rest_is = sym p.stand_in.in_order;
  counts_are = p.counts_are;
  words_are = none;
  count = ap length none;
  near = refl;
}

no_groups : (groups : List Group) → map item_count groups ≡ [] → groups ≡ []
no_groups [] e = refl
no_groups (g ∷ groups) e = absurd (cc)

pub making_all : (items : List Item) (l : the.Layout) (counts : List ℕ) (done : ℕ)
    (rest : List Item) (words : List ℕ) → Making items l done rest words → counts ≡ l.counts.items
    → length counts ≤ done → IsMade items l words
making_all items l counts done rest words m same h =
    let none : m.back ≡ [] =
    no_groups m.back (sym m.counts_are ∙ sym (ap (drop done) same) ∙ drop_of_length-le counts h) in
    let whole : m.front ++ m.back ≡ m.front = ap (λ t. m.front ++ t) none ∙ append-nil m.front in
    let code : unwrap_or l.data_start l.address ≡ code_end 0 m.front =
    ap (λ t. unwrap_or t l.address) (m.data_is ∙ ap (data_at 0) whole)
    ∙ ap (unwrap_or (data_at 0 m.front)) (m.address_is ∙ ap (address_after 0) whole)
    ∙ sym (code_is 0 m.front) in
    let address = m.address_is ∙ ap (address_after 0) whole in
    let within = code_within 0 m.front in
    let count = m.count in
    record {
      laid = record {
        groups = m.front;
        stand_in = subst (StandIn items) whole m.stand_in;
        labels_are = m.labels_are ∙ ap (labels_after [] 0) whole;
        all_defined = all_defined (names_in items) [] items m.passed;
        in_reach = m.near;
        words_are = m.words_are;
        code_is = code;
      };
      passed = m.passed;
      count = omega arith;
      within = omega arith;
    }
