-- The first pass over the items of a node, an item at a time.
use Rattle.std.proofs.Common.{◌≡◌, ◌∙◌, ◌<◌, ◌≤◌, ℕ, suc, ◌+◌, Bool, true, List, [], ◌∷◌, ◌++◌, length, drop, drop-cons, get_or, take-append-drop, Some, None, refl, sym, ap, subst, append-nil, arith}
use Rattle.std.proofs.Common.{take as first}
use Rattle.std.proofs.lemmas.Bool.{and_from, le-leb, or_left}
use Rattle.std.proofs.lemmas.List.{length-map, length-take-le, map-append, take_more}
use Rattle.std.proofs.lemmas.Grind.{common_steps}
use Rattle.std.proofs.lemmas.List.Folds.{list_all-append, list_any-append}
use Rattle.std.specs.Prelude.{◌&&◌, nat_le}
use Rattle.std.specs.Option.{option_map}
use Rattle.std.specs.Str.{bytes_eq}
use Rattle.ga_pack.specs.Model.Layout.{Labels, Arrangement, address_after, labels_after, names_in}
use Rattle.ga_pack.specs.Model.LayoutFault.{AllPass, FirstPassFault, fault_at, fault_behind, joins_last, words_added}
use Rattle.ga_pack.specs.Model.Source.{Item, Here, Items, is_among, is_new, start}
use Rattle.ga_pack.proofs.Placed.{add, add_stands, passed_more}
use Rattle.ga_source.specs.declared.item.Item as an
use Rattle.ga_source.specs.Item.{item_of}
use Rattle.ga_source.specs.Name.{NameText}
use Rattle.ga_asm.specs.Image.{all_near, labels_of}
use Rattle.ga_asm.specs.inner.Layout.{AreAmong, IsBlank, Laying, Placing, closed_counts, counts_after, data_after, data_at, joins_open, labels_with, names_of, open_after, open_at, open_count, open_of, plain, plain_names}
use Rattle.ga_asm.specs.declared.layout.Layout as the
use Rattle.ga_asm.proofs.RightItems.{items_new}
use Rattle.ga_asm.proofs.Summary.{address_add, counts_add, counts_closed, data_add, joins_is, labels_add, open_add}
use Rattle.ga_pack.specs.declared.error_kind.AsmErrorKind.{AsmErrorKind}

-- ---- one item more

names_more : (front more : List Item) → names_in (front ++ more) ≡ names_in front ++ names_in more
names_more [] more = refl
names_more (Here s ∷ front) more = ap (λ r. s ∷ r) (names_more front more)
names_more (i ∷ front) more = names_more front more

names_with : (labels : Labels) (address : ℕ) (x : Item)
    → names_of (labels_with labels address x) ≡ names_of labels ++ names_in (x ∷ [])
names_with labels address (Here s) = map-append (λ label. label.0) labels ((s, address) ∷ [])
names_with labels address x = sym (append-nil (names_of labels))

near_with : (labels : Labels) (address : ℕ) (x : Item) → address ≤ 64 → all_near labels ≡ true
    → all_near (labels_with labels address x) ≡ true
near_with labels address (Here s) few near =
    let is_near : (List ℕ × ℕ) → Bool = λ label. nat_le label.1 64 in
    list_all-append is_near labels ((s, address) ∷ [])
    ∙ and_from (all_near labels) (nat_le address 64 && true) near
    (and_from (nat_le address 64) true (le-leb address 64 few) refl)
near_with labels address x few near = near

joins_same : (names : List (List ℕ)) (before : List Item) (l : the.Layout)
    (laying : Laying names before l) (x : Item)
    → joins_last [] 0 laying.groups x ≡ joins_open (labels_of l.labels.entries) (open_of l) x
joins_same names before l laying x =
    joins_is [] 0 laying.groups x
    ∙ ap (λ t. joins_open t (open_at 0 laying.groups) x) (sym laying.labels_are)
    ∙ ap (λ t. joins_open (labels_of l.labels.entries) t x) (sym laying.open_is)

fault_same : (names : List (List ℕ)) (before : List Item) (l : the.Layout)
    (laying : Laying names before l) (x : Item)
    → fault_behind names laying.groups x ≡ fault_at names (labels_of l.labels.entries) l.address
    (joins_open (labels_of l.labels.entries) (open_of l) x) x
unfolding fault_behind
fault_same names before l laying x =
    ap (λ t. fault_at names (labels_after [] 0 laying.groups) (address_after 0 laying.groups) t x)
    (joins_same names before l laying x)
    ∙ ap (λ t. fault_at names t (address_after 0 laying.groups)
    (joins_open (labels_of l.labels.entries) (open_of l) x) x) (sym laying.labels_are)
    ∙ ap (λ t. fault_at names (labels_of l.labels.entries) t
    (joins_open (labels_of l.labels.entries) (open_of l) x) x) (sym laying.address_is)

pub not_long : (names : List (List ℕ)) (labels : Labels) (address : ℕ) (joined : Bool) (x : Item)
    → fault_at names labels address joined x ≡ None → address + words_added joined x ≤ 64
not_long names labels address joined x h = grind (arith, common_steps)

-- what laying an item does
pub record Step (x : Item) (joined : Bool) (l m : the.Layout) : Type 0 where
  pub labels : labels_of m.labels.entries ≡ labels_with (labels_of l.labels.entries) l.address x
  pub address : m.address ≡ l.address + words_added joined x
  pub word : open_of m ≡ open_after joined (open_of l) l.address x
  pub counts : m.counts.items ≡ counts_after joined (open_of l) l.counts.items x
  pub data_start : m.data_start ≡ data_after l.data_start l.address x

pub laying_next : (names : List (List ℕ)) (before : List Item) (l m : the.Layout) (x : Item)
    → Laying names before l → fault_at names (labels_of l.labels.entries) l.address
    (joins_open (labels_of l.labels.entries) (open_of l) x) x ≡ None
    → Step x (joins_open (labels_of l.labels.entries) (open_of l) x) l m
    → Laying names (before ++ x ∷ []) m
laying_next names before l m x laying none step =
    let joined = joins_open (labels_of l.labels.entries) (open_of l) x in
    let same = joins_same names before l laying x in
    let none' = fault_same names before l laying x ∙ none in
    let long = not_long names (labels_of l.labels.entries) l.address joined x none in
    let groups = laying.groups in
    record {
      groups = add [] 0 groups x;
      stand_in = add_stands names x laying.stand_in none';
      passed = passed_more names [] before x laying.passed
          (record { groups = groups; stand_in = laying.stand_in; fault_is = none' });
      labels_are =
          step.labels ∙ ap (λ t. labels_with t l.address x) laying.labels_are
          ∙ ap (λ t. labels_with (labels_after [] 0 groups) t x) laying.address_is
          ∙ sym (labels_add [] 0 groups x);
      names_are =
          ap names_of step.labels ∙ names_with (labels_of l.labels.entries) l.address x
          ∙ ap (λ t. t ++ names_in (x ∷ [])) laying.names_are
          ∙ sym (names_more before (x ∷ []));
      address_is =
          step.address ∙ ap (λ t. t + words_added joined x) laying.address_is
          ∙ ap (λ t. address_after 0 groups + words_added t x) (sym same)
          ∙ sym (address_add [] 0 groups x);
      open_is =
          step.word ∙ ap (λ t. open_after t (open_of l) l.address x) (sym same)
          ∙ ap (λ t. open_after (joins_last [] 0 groups x) t l.address x) laying.open_is
          ∙ ap (λ t. open_after (joins_last [] 0 groups x) (open_at 0 groups) t x) laying.address_is
          ∙ sym (open_add [] 0 groups x);
      counts_are =
          step.counts ∙ ap (λ t. counts_after t (open_of l) l.counts.items x) (sym same)
          ∙ ap (λ t. counts_after (joins_last [] 0 groups x) t l.counts.items x) laying.open_is
          ∙ ap (λ t. counts_after (joins_last [] 0 groups x) (open_at 0 groups) t x)
          laying.counts_are
          ∙ sym (counts_add [] 0 groups x);
      data_is =
          step.data_start ∙ ap (λ t. data_after t l.address x) laying.data_is
          ∙ ap (λ t. data_after (data_at 0 groups) t x) laying.address_is
          ∙ sym (data_add [] 0 groups x);
      few = omega arith;
      labels_near = ap all_near step.labels
          ∙ near_with (labels_of l.labels.entries) l.address x laying.few laying.labels_near;
    }

-- ---- the items as they stand in the text

cut_is : (items : List an.Item) (at : ℕ) (d : an.Item) → at < length items → d ≡ get_or items at d
    → plain items ≡ plain (first at items) ++ (item_of d ∷ plain (drop (suc at) items))
cut_is items at d h is =
    ap plain (sym (take-append-drop at items) ∙ ap (λ t. first at items ++ t)
    (drop-cons items at d h ∙ ap (λ t. t ∷ drop (suc at) items) (sym is)))
    ∙ map-append (λ (i : an.Item). item_of i) (first at items) (d ∷ drop (suc at) items)

front_length : (items : List an.Item) (at : ℕ) → at ≤ length items
    → length (plain (first at items)) ≡ at
front_length items at h =
    length-map (first at items) (λ (i : an.Item). item_of i) ∙ length-take-le at items h

pub front_next : (items : List an.Item) (at : ℕ) (d : an.Item) → at < length items
    → d ≡ get_or items at d
    → plain (first (at + 1) items) ≡ plain (first at items) ++ item_of d ∷ []
front_next items at d h is =
    ap plain (take_more items at d h ∙ ap (λ t. first at items ++ t ∷ []) (sym is))
    ∙ map-append (λ (i : an.Item). item_of i) (first at items) (d ∷ [])

-- a label that is laid is new
pub next_new : (names : List (List ℕ)) (items : List an.Item) (at : ℕ) (d : an.Item)
    (l : the.Layout) → at < length items → d ≡ get_or items at d → Items start (plain items)
    → Laying names (plain (first at items)) l
    → is_new (item_of d) (names_of (labels_of l.labels.entries)) ≡ true
next_new names items at d l h is right laying =
    let right' = subst (λ t. Items start t) (cut_is items at d h is) right in
    subst (λ t. is_new (item_of d) t ≡ true) (sym laying.names_are)
    (items_new start (plain (first at items)) (item_of d) (plain (drop (suc at) items)) right')

-- the labels that are laid are among those of the node
pub laid_among : (items : List an.Item) (at : ℕ) (d : an.Item) (l : the.Layout)
    (labels : List NameText) → at < length items → d ≡ get_or items at d
    → Laying (names_in (plain items)) (plain (first at items)) l
    → plain_names labels ≡ names_in (plain items)
    → AreAmong (names_of (labels_of l.labels.entries)) (plain_names labels)
laid_among items at d l labels h is laying same name among =
    let before = names_in (plain (first at items)) in
    let behind = names_in (item_of d ∷ plain (drop (suc at) items)) in
    ap (is_among name) (same ∙ ap names_in (cut_is items at d h is)
    ∙ names_more (plain (first at items)) (item_of d ∷ plain (drop (suc at) items)))
    ∙ list_any-append (bytes_eq name) before behind
    ∙ or_left (is_among name before) (is_among name behind)
    (ap (is_among name) (sym laying.names_are) ∙ among)

pub laying_fault : (items : List an.Item) (at : ℕ) (d : an.Item) (l : the.Layout)
    (kind : AsmErrorKind) → at < length items → d ≡ get_or items at d
    → Laying (names_in (plain items)) (plain (first at items)) l
    → fault_at (names_in (plain items)) (labels_of l.labels.entries) l.address
    (joins_open (labels_of l.labels.entries) (open_of l) (item_of d)) (item_of d) ≡ Some kind
    → FirstPassFault (plain items) at kind
laying_fault items at d l kind h is laying e = record {
  before = plain (first at items);
  item = item_of d;
  rest = plain (drop (suc at) items);
  split = cut_is items at d h is;
  at_is = sym (front_length items at (omega arith));
  passed = laying.passed;
  judged = record {
    groups = laying.groups;
    stand_in = laying.stand_in;
    fault_is = fault_same (names_in (plain items)) (plain (first at items)) l laying (item_of d)
        ∙ e;
  };
}

-- ---- the beginning and the end

pub laying_none : (names : List (List ℕ)) (l : the.Layout) → IsBlank l → Laying names [] l
unfolding Arrangement AllPass
laying_none names l blank =
    let address = blank.address in
    record {
      groups = [];
      stand_in = record { in_order = refl; arranged = tt };
      passed = tt;
      labels_are = ap labels_of blank.labels;
      names_are = ap (λ t. names_of (labels_of t)) blank.labels;
      address_is = address;
      open_is = ap (option_map (λ word. (word.address, word.ops.items))) blank.closed;
      counts_are = blank.counts;
      data_is = blank.data_start;
      few = omega arith;
      labels_near = ap (λ t. all_near (labels_of t)) blank.labels;
    }

pub laying_all : (items : List Item) (l m : the.Layout) → Laying (names_in items) items l
    → m ≡ record l { open_word = None; counts = m.counts }
    → m.counts.items ≡ l.counts.items ++ open_count (open_of l) → Placing items m
laying_all items l m laying same counts =
    let labels : m.labels.entries ≡ l.labels.entries = ap (λ t. t.labels.entries) same in
    let address : m.address ≡ l.address = ap (λ t. t.address) same in
    let data_start : m.data_start ≡ l.data_start = ap (λ t. t.data_start) same in
    record {
      groups = laying.groups;
      stand_in = laying.stand_in;
      passed = laying.passed;
      labels_are = ap labels_of labels ∙ laying.labels_are;
      address_is = address ∙ laying.address_is;
      counts_are =
          counts ∙ ap (λ t. t ++ open_count (open_of l)) laying.counts_are
          ∙ ap (λ t. closed_counts laying.groups ++ open_count t) laying.open_is
          ∙ counts_closed 0 laying.groups;
      data_is = data_start ∙ laying.data_is;
      few = rw address laying.few;
      labels_near = ap (λ t. all_near (labels_of t)) labels ∙ laying.labels_near;
    }
