-- Items that are placed in order, each in the next free slot if it fits there, are in the right
-- places. So each list of items fills words, or has a fault.
use Rattle.std.proofs.Common.{◌≡◌, ◌⊎◌, inl, inr, ℕ, ◌+◌, Bool, true, false, List, [], ◌∷◌, ◌++◌, length, Option, Some, None, refl, sym, ap, ◌∙◌, subst, append_assoc, append-nil, arith}
use Rattle.std.proofs.lemmas.Bool.{and_parts, and_from}
use Rattle.std.proofs.lemmas.Grind.{common_steps}
use Rattle.std.specs.Prelude.{if◌then◌else◌}
use Rattle.ga_word.specs.declared.op.Op.{Op}
use Rattle.ga_pack.specs.Model.Layout.{Labels, Group, Shared, Alone, Arrangement, StandIn, address_after, all_in_reach, fits, group_in_reach, is_in_reach, labels_after, names_in, is_loose, items_of, joins, labels_behind, may_reach, more_join, op_of, ops_of, p_behind, size, stand, value_of}
use Rattle.ga_pack.specs.Model.LayoutFault.{AsmFault, Judgement, AllPass, fault_behind, is_lone_unext, joins_last}
use Rattle.ga_pack.specs.Model.Source.{Item, Number, Label, Instruction, Transfer, Literal}
use Rattle.ga_pack.proofs.ByCases.{on_test}
use Rattle.ga_pack.specs.declared.error_kind.AsmErrorKind.{AsmErrorKind}
use Rattle.ga_pack.specs.declared.error_kind.AsmErrorKind.TheVariants.{OutOfReach}

-- a group of one item
abbrev pub fresh : Item → Group
fresh i = if is_loose i then Shared i [] else Alone i

-- one item more behind groups from an address on: it joins the last word, or makes a group of its
-- own
abbrev pub add : Labels → ℕ → List Group → Item → List Group
add labels address [] x = fresh x ∷ []
add labels address (Shared i is ∷ []) x =
    if joins labels address (ops_of (i ∷ is)) x then Shared i (is ++ x ∷ []) ∷ []
    else Shared i is ∷ fresh x ∷ []
add labels address (Alone i ∷ []) x = Alone i ∷ fresh x ∷ []
add labels address (group ∷ next ∷ groups) x =
    group ∷ add (labels_behind labels address group) (address + size group) (next ∷ groups) x

fresh_items : (x : Item) → items_of (fresh x ∷ []) ≡ x ∷ []
fresh_items x =
    on_test (is_loose x)
    (λ b. items_of ((if b then Shared x [] else Alone x) ∷ []) ≡ x ∷ []) (λ e. refl) (λ e. refl)

slot0 : (p : ℕ) (dest : Option ℕ) → may_reach 0 p dest ≡ true
slot0 p None = refl
slot0 p (Some dest) = refl

-- each loose item but `unext` begins a word
begins : (labels : Labels) (address : ℕ) (x : Item) → is_loose x ≡ true
    → is_lone_unext false x ≡ false → joins labels address [] x ≡ true
unfolding fits
begins labels address (Instruction o) loose h = grind (arith, common_steps)
begins labels address (Transfer o (Number n)) loose h = refl
begins labels address (Transfer o (Label s)) loose h =
    slot0 (p_behind address []) (value_of labels (Label s))
begins labels address (Literal n) loose h = refl
begins labels address i loose h = absurd (cc)

-- the word takes one item more
stand_more : (labels : Labels) (address : ℕ) (ops : List Op) (is : List Item) (x : Item)
    → stand labels address ops is ≡ true → joins labels address (ops ++ ops_of is) x ≡ true
    → stand labels address ops (is ++ x ∷ []) ≡ true
stand_more labels address ops [] x stands h =
    let here : joins labels address ops x ≡ true = rw append-nil at h in
    and_from (joins labels address ops x) true here refl
stand_more labels address ops (i ∷ is) x stands h =
    let parts =
    and_parts (joins labels address ops i) (stand labels address (ops ++ op_of i ∷ []) is) stands in
    let h' = subst (λ t. joins labels address t x ≡ true)
    (sym (append_assoc ops (op_of i ∷ []) (ops_of is))) h in
    and_from (joins labels address ops i)
    (stand labels address (ops ++ op_of i ∷ []) (is ++ x ∷ [])) parts.0
    (stand_more labels address (ops ++ op_of i ∷ []) is x parts.1 h')

fresh_arranged : (labels : Labels) (address : ℕ) (x : Item) → is_lone_unext false x ≡ false
    → Arrangement labels address (fresh x ∷ [])
unfolding Arrangement
fresh_arranged labels address x h =
    on_test (is_loose x)
    (λ b. Arrangement labels address ((if b then Shared x [] else Alone x) ∷ []))
    (λ loose.
    (and_from (joins labels address [] x) true (begins labels address x loose h) refl, refl, tt))
    (λ alone. (alone, tt))

-- whether a word takes more depends only on the next item
more_join-fresh : (labels : Labels) (address : ℕ) (ops : List Op) (x : Item)
    → more_join labels address ops (items_of (fresh x ∷ [])) ≡ joins labels address ops x
more_join-fresh labels address ops x = ap (more_join labels address ops) (fresh_items x)

more_join-add : (labels behind : Labels) (address next : ℕ) (ops : List Op) (group : Group)
    (groups : List Group) (x : Item)
    → more_join labels address ops (items_of (add behind next (group ∷ groups) x))
    ≡ more_join labels address ops (items_of (group ∷ groups))
more_join-add labels behind address next ops (Shared i is) [] x =
    on_test (joins behind next (ops_of (i ∷ is)) x)
    (λ b. more_join labels address ops (items_of (if b then Shared i (is ++ x ∷ []) ∷ []
    else Shared i is ∷ fresh x ∷ [])) ≡ joins labels address ops i)
    (λ e. refl) (λ e. refl)
more_join-add labels behind address next ops (Alone i) [] x = refl
more_join-add labels behind address next ops (Shared i is) (group ∷ groups) x = refl
more_join-add labels behind address next ops (Alone i) (group ∷ groups) x = refl

not_joined : (joined : Bool) (x : Item) → joined ≡ false → is_lone_unext joined x ≡ false
    → is_lone_unext false x ≡ false
not_joined joined x e h = subst (λ b. is_lone_unext b x ≡ false) e h

add_arranged : (labels : Labels) (address : ℕ) (groups : List Group) (x : Item)
    → Arrangement labels address groups
    → is_lone_unext (joins_last labels address groups x) x ≡ false
    → Arrangement labels address (add labels address groups x)
unfolding Arrangement
add_arranged labels address [] x arranged h = fresh_arranged labels address x h
add_arranged labels address (Shared i is ∷ []) x (stands, full, more) h =
    on_test (joins labels address (ops_of (i ∷ is)) x)
    (λ b. joins labels address (ops_of (i ∷ is)) x ≡ b → Arrangement labels address
    (if b then Shared i (is ++ x ∷ []) ∷ [] else Shared i is ∷ fresh x ∷ []))
    (λ e joined. (stand_more labels address [] (i ∷ is) x stands joined, refl, tt))
    (λ e apart. (
      stands,
      more_join-fresh labels address (ops_of (i ∷ is)) x ∙ apart,
      fresh_arranged labels (address + size (Shared i is)) x
          (not_joined (joins labels address (ops_of (i ∷ is)) x) x apart h),
    ))
    refl
add_arranged labels address (Alone i ∷ []) x (alone, more) h =
    (alone, fresh_arranged (labels_behind labels address (Alone i)) (address + size (Alone i)) x h)
add_arranged labels address (Shared i is ∷ group ∷ groups) x (stands, full, more) h = (
  stands,
  more_join-add labels labels address (address + size (Shared i is))
      (ops_of (i ∷ is)) group groups x ∙ full,
  add_arranged labels (address + size (Shared i is)) (group ∷ groups) x more h,
)
add_arranged labels address (Alone i ∷ group ∷ groups) x (alone, more) h = (
  alone,
  add_arranged (labels_behind labels address (Alone i)) (address + size (Alone i))
      (group ∷ groups) x more h,
)

add_items : (labels : Labels) (address : ℕ) (groups : List Group) (x : Item)
    → items_of (add labels address groups x) ≡ items_of groups ++ x ∷ []
add_items labels address [] x = fresh_items x
add_items labels address (Shared i is ∷ []) x =
    on_test (joins labels address (ops_of (i ∷ is)) x)
    (λ b. items_of (if b then Shared i (is ++ x ∷ []) ∷ [] else Shared i is ∷ fresh x ∷ []) ≡ i
    ∷ ((is ++ []) ++ x ∷ []))
    (λ e. ap (λ t. i ∷ t) (append-nil (is ++ x ∷ []) ∙ ap (λ t. t ++ x ∷ []) (sym (append-nil is))))
    (λ e. ap (λ t. i ∷ (is ++ t)) (fresh_items x)
    ∙ ap (λ t. i ∷ (t ++ x ∷ [])) (sym (append-nil is)))
add_items labels address (Alone i ∷ []) x = ap (λ t. i ∷ t) (fresh_items x)
add_items labels address (Shared i is ∷ group ∷ groups) x =
    ap (λ t. i ∷ (is ++ t)) (add_items labels (address + size (Shared i is)) (group ∷ groups) x)
    ∙ ap (λ t. i ∷ t) (sym (append_assoc is (items_of (group ∷ groups)) (x ∷ [])))
add_items labels address (Alone i ∷ group ∷ groups) x =
    ap (λ t. i ∷ t) (add_items (labels_behind labels address (Alone i)) (address + size (Alone i))
    (group ∷ groups) x)

-- an item without a fault is no `unext` in a word of its own
no_lone_unext : (names : List (List ℕ)) (groups : List Group) (x : Item)
    → fault_behind names groups x ≡ None → is_lone_unext (joins_last [] 0 groups x) x ≡ false
unfolding fault_behind
no_lone_unext names groups x h = grind (arith, common_steps)

-- an item without a fault is placed behind groups
pub add_stands : (names : List (List ℕ)) {before : List Item} {groups : List Group} (x : Item)
    → StandIn before groups → fault_behind names groups x ≡ None
    → StandIn (before ++ x ∷ []) (add [] 0 groups x)
add_stands names {groups = groups} x stands none = record {
  in_order = add_items [] 0 groups x ∙ ap (λ t. t ++ x ∷ []) stands.in_order;
  arranged = add_arranged [] 0 groups x stands.arranged (no_lone_unext names groups x none);
}

-- ---- each list of items stands in words, or has a fault

-- an item more passes
pub passed_more : (names : List (List ℕ)) (front items : List Item) (x : Item)
    → AllPass names front items → Judgement names (front ++ items) x None
    → AllPass names front (items ++ x ∷ [])
unfolding AllPass
passed_more names front [] x passed judged = (rw append-nil at judged, tt)
passed_more names front (i ∷ items) x passed judged = (
  passed.0,
  passed_more names (front ++ i ∷ []) items x passed.1
      (subst (λ t. Judgement names t x None) (sym (append_assoc front (i ∷ []) items)) judged),
)

-- items that fill words and have passed, with each name in brackets in reach
pub record Standing (items : List Item) : Type 0 where
  pub groups : List Group
  pub stand_in : StandIn items groups
  pub passed : AllPass (names_in items) [] items
  pub in_reach : all_in_reach (labels_after [] 0 groups) 0 groups ≡ true

abbrev pub SomeFault : List Item → Type 0
SomeFault items = (at : ℕ) × (kind : AsmErrorKind) × AsmFault items at kind

-- the first name that is out of reach, if there is one
data Farthest (labels : Labels) (address : ℕ) (groups : List Group) : Type 0 where
  none_far : all_in_reach labels address groups ≡ true → Farthest labels address groups
  far : (front : List Group) (item : Item) (back : List Group) → groups ≡ front ++ Alone item ∷ back
      → all_in_reach labels address front ≡ true
      → is_in_reach labels (address_after address front) item ≡ false
      → Farthest labels address groups

farthest_behind : (labels : Labels) (address : ℕ) (group : Group) (groups : List Group)
    → group_in_reach labels address group ≡ true → Farthest labels (address + size group) groups
    → Farthest labels address (group ∷ groups)
farthest_behind labels address group groups near (none_far all) =
    none_far (and_from (group_in_reach labels address group)
    (all_in_reach labels (address + size group) groups) near all)
farthest_behind labels address group groups near (far front item back e all is_far) =
    far (group ∷ front) item back (ap (λ t. group ∷ t) e)
    (and_from (group_in_reach labels address group)
    (all_in_reach labels (address + size group) front) near all) is_far

farthest : (labels : Labels) (address : ℕ) (groups : List Group) → Farthest labels address groups
farthest labels address [] = none_far refl
farthest labels address (Shared i is ∷ groups) =
    farthest_behind labels address (Shared i is) groups refl
    (farthest labels (address + size (Shared i is)) groups)
farthest labels address (Alone i ∷ groups) =
    on_test (is_in_reach labels address i)
    (λ b. is_in_reach labels address i ≡ b → Farthest labels address (Alone i ∷ groups))
    (λ e near. farthest_behind labels address (Alone i) groups near
    (farthest labels (address + size (Alone i)) groups))
    (λ e is_far. far [] i groups refl refl is_far)
    refl

second_pass : (items : List Item) (groups : List Group) → StandIn items groups
    → AllPass (names_in items) [] items → Farthest (labels_after [] 0 groups) 0 groups
    → Standing items ⊎ SomeFault items
second_pass items groups stands passed (none_far all) =
    inl (record { groups = groups; stand_in = stands; passed = passed; in_reach = all })
second_pass items groups stands passed (far front item back e all is_far) =
    inr (
      length (items_of front),
      OutOfReach,
      inr (record {
        passed = passed;
        front = front;
        item = item;
        back = back;
        stand_in = subst (λ t. StandIn items t) e stands;
        front_near = subst (λ t. all_in_reach (labels_after [] 0 t) 0 front ≡ true) e all;
        item_far =
            subst (λ t. is_in_reach (labels_after [] 0 t) (address_after 0 front) item ≡ false) e
            is_far;
        at_is = refl;
        kind_is = refl;
      }),
    )

on_fault : (fault : Option AsmErrorKind) (P : Type 0) → (fault ≡ None → P)
    → ((kind : AsmErrorKind) → fault ≡ Some kind → P) → P
on_fault None P none some = none refl
on_fault (Some kind) P none some = some kind refl

first_pass : (items before : List Item) (groups : List Group) (rest : List Item)
    → items ≡ before ++ rest → StandIn before groups → AllPass (names_in items) [] before
    → Standing items ⊎ SomeFault items
first_pass items before groups [] e stands passed =
    let same : before ≡ items = sym (e ∙ append-nil before) in
    second_pass items groups (subst (λ t. StandIn t groups) same stands)
    (subst (λ t. AllPass (names_in items) [] t) same passed)
    (farthest (labels_after [] 0 groups) 0 groups)
first_pass items before groups (x ∷ rest) e stands passed =
    on_fault (fault_behind (names_in items) groups x) (Standing items ⊎ SomeFault items)
    (λ none.
    first_pass items (before ++ x ∷ []) (add [] 0 groups x) rest
    (e ∙ sym (append_assoc before (x ∷ []) rest))
    (add_stands (names_in items) x stands none)
    (passed_more (names_in items) [] before x passed
    (record { groups = groups; stand_in = stands; fault_is = none })))
    (λ kind some.
    inr (
      length before,
      kind,
      inl (record {
        before = before;
        item = x;
        rest = rest;
        split = e;
        at_is = refl;
        passed = passed;
        judged = record { groups = groups; stand_in = stands; fault_is = some };
      }),
    ))

-- each list of items fills words, or has a first fault
pub standing_or_fault : (items : List Item) → Standing items ⊎ SomeFault items
unfolding Arrangement AllPass
standing_or_fault items =
    first_pass items [] [] items refl (record { in_order = refl; arranged = tt }) tt
