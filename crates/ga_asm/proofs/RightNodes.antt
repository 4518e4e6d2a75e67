-- The nodes of a program without a fault are right, and the labels of a right node are near.
use Rattle.std.proofs.Common.{◌≡◌, ◌≤◌, ◌<◌, inl, inr, ℕ, zero, suc, ◌+◌, true, List, [], ◌∷◌, ◌++◌, length, None, refl, sym, ap, ◌∙◌, subst, append_assoc, append-nil, length-append, arith}
use Rattle.std.proofs.lemmas.Bool.{and_from, le-leb}
use Rattle.std.proofs.lemmas.List.{length-map}
use Rattle.std.proofs.lemmas.List.Folds.{list_all-append}
use Rattle.std.specs.Prelude.{◌&&◌, nat_le, Bool}
use Rattle.ga_pack.specs.Model.Layout.{Labels, Group, Shared, Alone, Arrangement, Laid, StandIn, address_after, items_of, labels_after, names_in, size}
use Rattle.ga_pack.specs.Model.LayoutFault.{AllPass, AllRight, AsmFault, fault_behind, joins_last, plain_items}
use Rattle.ga_pack.specs.Model.Program.{PlacedItem, PlacedSection}
use Rattle.ga_pack.specs.Model.Source.{Item, Here, Sections, start}
use Rattle.ga_pack.proofs.Laying.{right_or_fault}
use Rattle.ga_pack.proofs.OneLayout.{one_standing}
use Rattle.ga_pack.proofs.Placed.{add, add_stands}
use Rattle.ga_source.specs.Program.{sections_in}
use Rattle.ga_asm.specs.Assembling.{HasNoFault}
use Rattle.ga_asm.specs.Image.{all_near}
use Rattle.ga_asm.proofs.Groups.{items_append}
use Rattle.ga_asm.proofs.LayingSteps.{not_long}
use Rattle.ga_asm.proofs.RightItems.{items_right}
use Rattle.ga_asm.proofs.Sections.{right_snoc}
use Rattle.ga_asm.proofs.Summary.{address_add, address_grows}
use Rattle.ga_pack.specs.declared.error_kind.AsmErrorKind.{AsmErrorKind}

-- ---- the words and labels of a node

record Few (items : List Item) : Type 0 where
  groups : List Group
  stand_in : StandIn items groups
  few : address_after 0 groups ≤ 64

few_next : (names : List (List ℕ)) (groups : List Group) (i : Item)
    → fault_behind names groups i ≡ None → address_after 0 (add [] 0 groups i) ≤ 64
unfolding fault_behind
few_next names groups i none =
    let short =
    not_long names (labels_after [] 0 groups) (address_after 0 groups)
    (joins_last [] 0 groups i) i none in
    let e = address_add [] 0 groups i in
    omega arith

few_words : (names : List (List ℕ)) (before items : List Item) (groups : List Group)
    → AllPass names before items → StandIn before groups → address_after 0 groups ≤ 64
    → Few (before ++ items)
unfolding AllPass
few_words names before [] groups passed stands few =
    record {
      groups = groups;
      stand_in = subst (λ t. StandIn t groups)
          (sym (append-nil before)) stands;
      few = few;
    }
few_words names before (i ∷ items) groups passed stands few =
    let same = one_standing passed.0.stand_in stands in
    let none = ap (λ t. fault_behind names t i) (sym same) ∙ passed.0.fault_is in
    subst Few (append_assoc before (i ∷ []) items)
    (few_words names (before ++ i ∷ []) items (add [] 0 groups i) passed.1
    (add_stands names i stands none) (few_next names groups i none))

near_after : (labels : Labels) (address : ℕ) (groups : List Group) → all_near labels ≡ true
    → address_after address groups ≤ 64 → all_near (labels_after labels address groups) ≡ true
near_after labels address [] near few = near
near_after labels address (Alone (Here s) ∷ groups) near few =
    let grows = address_grows (address + 0) groups in
    let one : nat_le address 64 ≡ true = le-leb address 64 (omega arith) in
    let is_near : (List ℕ × ℕ) → Bool = λ label. nat_le label.1 64 in
    near_after (labels ++ (s, address) ∷ []) (address + 0) groups
    (list_all-append is_near labels ((s, address) ∷ [])
    ∙ and_from (all_near labels) (nat_le address 64 && true) near
    (and_from (nat_le address 64) true one refl)) few
near_after labels address (Shared i is ∷ groups) near few =
    near_after labels (address + size (Shared i is)) groups near few
near_after labels address (Alone i ∷ groups) near few =
    near_after labels (address + size (Alone i)) groups near few

pub record Near {items : List Item} {words : List ℕ} {labels : Labels} {code_len : ℕ}
    (laid : Laid items words labels code_len) : Type 0 where
  pub few : address_after 0 laid.groups ≤ 64
  pub labels_near : all_near labels ≡ true

pub near_laid : {items : List Item} {words : List ℕ} {labels : Labels} {code_len : ℕ}
    (laid : Laid items words labels code_len) → AllPass (names_in items) [] items → Near laid
unfolding Arrangement
near_laid {items = items} laid passed =
    let all =
    few_words (names_in items) [] items [] passed (record { in_order = refl; arranged = tt })
    (omega arith) in
    let same = one_standing all.stand_in laid.stand_in in
    let few = subst (λ t. address_after 0 t ≤ 64) same all.few in
    record {
      few = few;
      labels_near = ap all_near laid.labels_are
          ∙ near_after [] 0 laid.groups refl few;
    }

-- ---- the nodes of a program

-- an item is found at each index
record Spot (items : List PlacedItem) (at : ℕ) : Type 0 where
  front : List PlacedItem
  item : PlacedItem
  back : List PlacedItem
  split : items ≡ front ++ item ∷ back
  at_is : at ≡ length front

spot : (items : List PlacedItem) (at : ℕ) → at < length items → Spot items at
spot [] at h = absurd (omega arith)
spot (i ∷ items) zero h = record { front = []; item = i; back = items; split = refl; at_is = refl }
spot (i ∷ items) (suc at) h =
    let more = spot items at (omega arith) in
    record {
      front = i ∷ more.front;
      item = more.item;
      back = more.back;
      split = ap
          (λ t. i ∷ t) more.split;
      at_is = ap suc more.at_is;
    }

-- a fault is that of an item
fault_within : (items : List Item) (at : ℕ) (kind : AsmErrorKind) → AsmFault items at kind
    → at < length items
fault_within items at kind (inl p) =
    omega (arith, p.at_is, ap length p.split, length-append p.before (p.item ∷ p.rest))
fault_within items at kind (inr p) =
    omega (
      arith,
      p.at_is,
      ap length (sym p.stand_in.in_order ∙ items_append p.front
          (Alone p.item ∷ p.back)),
      length-append (items_of p.front) (p.item ∷ items_of p.back),
    )

right_behind : (front back : List PlacedSection) (seen : List ℕ) → AllRight front
    → Sections seen (sections_in back) → HasNoFault (front ++ back) → AllRight (front ++ back)
unfolding Sections
right_behind front [] seen all right none = subst AllRight (sym (append-nil front)) all
right_behind front (section ∷ back) seen all right none =
    let items = plain_items section in
    elim (right_or_fault items (items_right start items right.1)) [
      | inl is_right ↦
          subst AllRight (append_assoc front (section ∷ []) back)
          (right_behind (front ++ section ∷ []) back (seen ++ section.name ∷ [])
          (right_snoc front section all is_right) right.2
          (subst HasNoFault (sym (append_assoc front (section ∷ []) back)) none))
      | inr (at, kind, fault) ↦
          let there =
          spot section.items at (omega (
            arith,
            fault_within items at kind fault,
            length-map section.items
                (λ (i : PlacedItem). i.item),
          )) in
          absurd (
          none section.name _ kind
          (record {
            before = front;
            section = section;
            rest = back;
            split = refl;
            all_right = all;
            node_is = refl;
            front = there.front;
            item = there.item;
            back = there.back;
            items_split = there.split;
            fault = subst (λ t. AsmFault items t kind) there.at_is fault;
            place_is = refl;
          })
          )
    ]

-- each node of a program without a fault is right
pub all_right : (program : List PlacedSection) → Sections [] (sections_in program)
    → HasNoFault program → AllRight program
unfolding AllRight
all_right program right none = right_behind [] program [] tt right none
