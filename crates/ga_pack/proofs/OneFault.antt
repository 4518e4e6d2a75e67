-- The items of a node have one first fault at most, and none if they are laid and have passed.
use Rattle.std.proofs.Common.{◌≡◌, inl, inr, ℕ, ◌+◌, true, false, List, [], ◌∷◌, ◌++◌, length, Option, Some, None, refl, sym, ap, ◌∙◌, subst, append_assoc, append-nil, length-append, arith}
use Rattle.std.proofs.lemmas.Bool.{and_parts, both_ways}
use Rattle.ga_pack.specs.Model.Layout.{Labels, Group, Alone, Laid, address_after, all_in_reach, group_in_reach, is_in_reach, items_of, labels_after, names_in, size}
use Rattle.ga_pack.specs.Model.LayoutFault.{AllRight, AsmFault, FirstPassFault, IsRight, Judgement, AllPass, ProgramFault, SecondPassFault, fault_behind, fault_place, plain_items}
use Rattle.ga_pack.specs.Model.Program.{PlacedItem, PlacedSection}
use Rattle.ga_pack.specs.Model.Source.{Item}
use Rattle.ga_pack.specs.Model.Text.{Place}
use Rattle.ga_pack.proofs.OneLayout.{one_standing}
use Rattle.ga_pack.specs.declared.error_kind.AsmErrorKind.{AsmErrorKind}

-- one list cut at two items: at the same item, or one item is before the other
pub data Cuts {X : Type 0} (front : List X) (x : X) (front' : List X) (x' : X) : Type 0 where
  here : front ≡ front' → x ≡ x' → Cuts front x front' x'
  nearer : (mid : List X) → front' ≡ front ++ x ∷ mid → Cuts front x front' x'
  farther : (mid : List X) → front ≡ front' ++ x' ∷ mid → Cuts front x front' x'

more_cuts : {X : Type 0} (y : X) {front front' : List X} {x x' : X} → Cuts front x front' x'
    → Cuts (y ∷ front) x (y ∷ front') x'
more_cuts y (here e same) = here (ap (λ t. y ∷ t) e) same
more_cuts y (nearer mid e) = nearer mid (ap (λ t. y ∷ t) e)
more_cuts y (farther mid e) = farther mid (ap (λ t. y ∷ t) e)

pub cuts : {X : Type 0} (front : List X) (x : X) (back front' : List X) (x' : X) (back' : List X)
    → front ++ x ∷ back ≡ front' ++ x' ∷ back' → Cuts front x front' x'
cuts [] x back [] x' back' e = here refl (cc)
cuts [] x back (y ∷ front') x' back' e =
    nearer front' (let same : x ≡ y = cc in ap (λ t. t ∷ front') (sym same))
cuts (y ∷ front) x back [] x' back' e =
    farther front (let same : y ≡ x' = cc in ap (λ t. t ∷ front) same)
cuts (y ∷ front) x back (z ∷ front') x' back' e =
    let same : y ≡ z = cc in
    let rest : front ++ x ∷ back ≡ front' ++ x' ∷ back' = cc in
    subst (λ t. Cuts (y ∷ front) x (t ∷ front') x') same
    (more_cuts y (cuts front x back front' x' back' rest))

one_judgement : {names : List (List ℕ)} {before : List Item} {item : Item}
    {f g : Option AsmErrorKind} → Judgement names before item f → Judgement names before item g
    → f ≡ g
one_judgement {names = names} {item = item} p q =
    sym p.fault_is
    ∙ ap (λ groups. fault_behind names groups item) (one_standing p.stand_in q.stand_in)
    ∙ q.fault_is

-- if items have passed, each of them has no fault
passed_at : (names : List (List ℕ)) (behind mid : List Item) (item : Item) (rest : List Item)
    → AllPass names behind (mid ++ item ∷ rest) → Judgement names (behind ++ mid) item None
unfolding AllPass
passed_at names behind [] item rest p = rw append-nil p.0
passed_at names behind (i ∷ mid) item rest p =
    rw (← append_assoc behind (i ∷ []) mid) (passed_at names (behind ++ i ∷ []) mid item rest p.1)

passed_none : {names : List (List ℕ)} {front : List Item} {item : Item} {kind : AsmErrorKind}
    (rest : List Item) → AllPass names [] (front ++ item ∷ rest)
    → Judgement names front item (Some kind) → ⊥
passed_none {names = names} {front = front} {item = item} rest p q =
    let e = one_judgement (passed_at names [] front item rest p) q in cc

one_first_by : {items : List Item} {at at' : ℕ} {kind kind' : AsmErrorKind}
    (p : FirstPassFault items at kind) (q : FirstPassFault items at' kind')
    → Cuts p.before p.item q.before q.item → (at ≡ at') × (kind ≡ kind')
one_first_by {items = items} {kind = kind} p q (here e same) =
    let judged = subst (λ t. Judgement (names_in items) t p.item (Some kind)) e p.judged in
    let judged' = subst (λ t. Judgement (names_in items) q.before t (Some kind)) same judged in
    let one = one_judgement judged' q.judged in
    (p.at_is ∙ ap length e ∙ sym q.at_is, (cc))
one_first_by {items = items} p q (nearer mid e) =
    absurd (passed_none mid (subst (λ t. AllPass (names_in items) [] t) e q.passed) p.judged)
one_first_by {items = items} p q (farther mid e) =
    absurd (passed_none mid (subst (λ t. AllPass (names_in items) [] t) e p.passed) q.judged)

one_first : {items : List Item} {at at' : ℕ} {kind kind' : AsmErrorKind}
    → FirstPassFault items at kind → FirstPassFault items at' kind' → (at ≡ at') × (kind ≡ kind')
one_first p q =
    one_first_by p q (cuts p.before p.item p.rest q.before q.item q.rest (sym p.split ∙ q.split))

no_second : {items : List Item} {at : ℕ} {kind : AsmErrorKind} → AllPass (names_in items) [] items
    → FirstPassFault items at kind → ⊥
no_second {items = items} passed p =
    passed_none p.rest (subst (λ t. AllPass (names_in items) [] t) p.split passed) p.judged

-- if all names of groups are in reach, each of them is
near_at : (labels : Labels) (address : ℕ) (front : List Group) (item : Item) (back : List Group)
    → all_in_reach labels address (front ++ Alone item ∷ back) ≡ true
    → is_in_reach labels (address_after address front) item ≡ true
near_at labels address [] item back h =
    (and_parts (is_in_reach labels address item)
    (all_in_reach labels (address + size (Alone item)) back) h).0
near_at labels address (group ∷ front) item back h =
    near_at labels (address + size group) front item back
    (and_parts (group_in_reach labels address group)
    (all_in_reach labels (address + size group) (front ++ Alone item ∷ back)) h).1

-- the item that is out of reach is not one of groups in reach, with the labels of the same groups
far_not_near : {items : List Item} {at : ℕ} {kind : AsmErrorKind}
    (p : SecondPassFault items at kind) (groups front back : List Group)
    → p.front ++ Alone p.item ∷ p.back ≡ groups → front ≡ p.front ++ Alone p.item ∷ back
    → all_in_reach (labels_after [] 0 groups) 0 front ≡ true → ⊥
far_not_near p groups front back same e near =
    let far = subst (λ t. is_in_reach (labels_after [] 0 t) (address_after 0 p.front) p.item
    ≡ false) same p.item_far in
    let near' = subst (λ t. all_in_reach (labels_after [] 0 groups) 0 t ≡ true) e near in
    both_ways (is_in_reach (labels_after [] 0 groups) (address_after 0 p.front) p.item) far
    (near_at (labels_after [] 0 groups) 0 p.front p.item back near')

one_second_by : {items : List Item} {at at' : ℕ} {kind kind' : AsmErrorKind}
    (p : SecondPassFault items at kind) (q : SecondPassFault items at' kind')
    → Cuts p.front (Alone p.item) q.front (Alone q.item) → (at ≡ at') × (kind ≡ kind')
one_second_by p q (here e same) =
    (p.at_is ∙ ap (λ t. length (items_of t)) e ∙ sym q.at_is, p.kind_is ∙ sym q.kind_is)
one_second_by p q (nearer mid e) =
    absurd (far_not_near p (q.front ++ Alone q.item ∷ q.back) q.front mid
    (one_standing p.stand_in q.stand_in) e q.front_near)
one_second_by p q (farther mid e) =
    absurd (far_not_near q (p.front ++ Alone p.item ∷ p.back) p.front mid
    (one_standing q.stand_in p.stand_in) e p.front_near)

one_second : {items : List Item} {at at' : ℕ} {kind kind' : AsmErrorKind}
    → SecondPassFault items at kind → SecondPassFault items at' kind' → (at ≡ at') × (kind ≡ kind')
one_second p q =
    one_second_by p q (cuts p.front (Alone p.item) p.back q.front (Alone q.item) q.back
    (one_standing p.stand_in q.stand_in))

-- items have one first fault at most
pub one_fault : {items : List Item} {at at' : ℕ} {kind kind' : AsmErrorKind}
    → AsmFault items at kind → AsmFault items at' kind' → (at ≡ at') × (kind ≡ kind')
one_fault (inl p) (inl q) = one_first p q
one_fault (inl p) (inr q) = absurd (no_second q.passed p)
one_fault (inr p) (inl q) = absurd (no_second p.passed q)
one_fault (inr p) (inr q) = one_second p q

-- items that are laid and have passed have none
pub laid_right : {items : List Item} {words : List ℕ} {labels : Labels} {code_len at : ℕ}
    {kind : AsmErrorKind} → Laid items words labels code_len → AllPass (names_in items) [] items
    → AsmFault items at kind → ⊥
laid_right laid passed (inl p) = no_second passed p
laid_right laid passed (inr p) =
    let near = subst (λ t. all_in_reach t 0 laid.groups ≡ true) laid.labels_are laid.in_reach in
    far_not_near p laid.groups laid.groups p.back (one_standing p.stand_in laid.stand_in)
    (one_standing laid.stand_in p.stand_in) near

-- a node without a fault has none
right_no_fault : {items : List Item} {at : ℕ} {kind : AsmErrorKind} → IsRight items
    → AsmFault items at kind → ⊥
right_no_fault right fault = laid_right right.laid right.passed fault

right_at : (front : List PlacedSection) (section : PlacedSection) (back : List PlacedSection)
    → AllRight (front ++ section ∷ back) → IsRight (plain_items section)
unfolding AllRight
right_at [] section back all = all.0
right_at (other ∷ front) section back all = right_at front section back all.1

one_item_by : {front front' : List PlacedItem} {item item' : PlacedItem}
    → length front ≡ length front' → Cuts front item front' item' → item ≡ item'
one_item_by same (here e is) = is
one_item_by {front = front} {item = item} same (nearer mid e) =
    absurd (omega (arith, ap length e, length-append front (item ∷ mid)))
one_item_by {front' = front'} {item' = item'} same (farther mid e) =
    absurd (omega (arith, ap length e, length-append front' (item' ∷ mid)))

one_item : (items front back front' back' : List PlacedItem) (item item' : PlacedItem)
    → items ≡ front ++ item ∷ back → items ≡ front' ++ item' ∷ back' → length front ≡ length front'
    → item ≡ item'
one_item items front back front' back' item item' e e' same =
    one_item_by same (cuts front item back front' item' back' (sym e ∙ e'))

one_program_by : {program : List PlacedSection} {node node' : ℕ} {place place' : Place}
    {kind kind' : AsmErrorKind} (p : ProgramFault program node place kind)
    (q : ProgramFault program node' place' kind') → Cuts p.before p.section q.before q.section
    → (node ≡ node') × (place ≡ place') × (kind ≡ kind')
one_program_by {kind = kind} p q (here e same) =
    let fault = subst (λ t. AsmFault (plain_items t) (length p.front) kind) same p.fault in
    let one = one_fault fault q.fault in
    let items = ap (λ t. t.items) (sym same) ∙ p.items_split in
    let item = one_item q.section.items p.front p.back q.front q.back p.item q.item items
    q.items_split one.0 in (
      p.node_is ∙ ap (λ t. t.name) same ∙ sym q.node_is,
      p.place_is ∙ ap fault_place item ∙ sym q.place_is,
      one.1,
    )
one_program_by p q (nearer mid e) =
    absurd (right_no_fault (right_at p.before p.section mid (subst AllRight e q.all_right)) p.fault)
one_program_by p q (farther mid e) =
    absurd (right_no_fault (right_at q.before q.section mid (subst AllRight e p.all_right)) q.fault)

-- a program has one first fault at most
pub one_program_fault : {program : List PlacedSection} {node node' : ℕ} {place place' : Place}
    {kind kind' : AsmErrorKind} → ProgramFault program node place kind
    → ProgramFault program node' place' kind' → (node ≡ node') × (place ≡ place') × (kind ≡ kind')
one_program_fault p q =
    one_program_by p q
    (cuts p.before p.section p.rest q.before q.section q.rest (sym p.split ∙ q.split))

-- and none if all its nodes are right
pub right_program : {program : List PlacedSection} {node : ℕ} {place : Place} {kind : AsmErrorKind}
    → AllRight program → ProgramFault program node place kind → ⊥
right_program all p =
    right_no_fault (right_at p.before p.section p.rest (subst AllRight p.split all)) p.fault
