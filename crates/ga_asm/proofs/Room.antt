-- The images of a text have room in their nodes: 1 to 64 words, and an entry of at most 64.
use Rattle.std.proofs.Common.{◌≡◌, ◌∙◌, ◌⊎◌, inl, inr, ℕ, ◌+◌, ◌<◌, ◌≤◌, zero, suc, Bool, true, false, ◌&&◌, List, [], ◌∷◌, ◌++◌, length, drop, map, Option, Some, None, refl, sym, ap, ap₂, subst, append_assoc, append-nil, le-leb, length-append, arith}
use Rattle.std.specs.Prelude.{◌||◌, if◌then◌else◌, nat_le, nat_lt, not}
use Rattle.std.specs.List.{AllByRecursion, list_all, list_any}
use Rattle.std.proofs.lemmas.Bool.{and_from, ltb-false}
use Rattle.std.proofs.lemmas.List.{length-map}
use Rattle.std.proofs.lemmas.List.Folds.{list_all-append}
use Rattle.ga_pack.specs.Model.Layout.{Arrangement, Group, GroupWords, Labels, Shared, Alone, StandIn, Words, address_after, items_of, labels_after, labels_behind, names_in, size}
use Rattle.ga_pack.specs.Model.LayoutFault.{AllPass, AllRight, AsmFault, IsRight, Judgement, ProgramFault, fault_behind, fault_place, joins_last, plain_items, words_added}
use Rattle.ga_pack.specs.Model.Program.{IsProgram, PlacedItem, PlacedSection, placed_items, placed_sections, tokens_of}
use Rattle.ga_pack.specs.Model.Source.{Item, Here, Items, Section, Sections, Source, is_item, item_tokens, items_tokens, makes_word, start}
use Rattle.ga_pack.specs.Model.Text.{Place, places_of}
use Rattle.ga_pack.proofs.Laying.{right_or_fault}
use Rattle.ga_pack.proofs.OneLayout.{one_standing}
use Rattle.ga_pack.proofs.Placed.{add, add_stands}
use Rattle.ga_asm.specs.Assembling.{HasNoFault, IsAssembled}
use Rattle.ga_asm.specs.Image.{ImageView, IsImage, IsLoadable, all_near}
use Rattle.ga_asm.specs.Text.{HasImages}
use Rattle.ga_asm.proofs.Groups.{group_length}
use Rattle.ga_asm.proofs.LabelLists.{near_entry}
use Rattle.ga_asm.proofs.RightItems.{items_right, items_word, words_some}
use Rattle.ga_asm.proofs.Summary.{address_add, address_grows}
use Rattle.ga_pack.specs.declared.error_kind.AsmErrorKind.{AsmErrorKind}
use Rattle.ga_pack.specs.declared.error_kind.AsmErrorKind.TheVariants.{UndefinedLabel, OutOfReach, UnextAlone, TooLong}

-- ---- items that passed take 64 words at most

-- the last of the items that passed
last_judged : (names : List (List ℕ)) (before items : List Item) (x : Item)
    → AllPass names before (items ++ x ∷ []) → Judgement names (before ++ items) x None
unfolding AllPass
last_judged names before [] x passed =
    subst (λ t. Judgement names t x None) (sym (append-nil before)) passed.0
last_judged names before (i ∷ items) x passed =
    subst (λ t. Judgement names t x None) (append_assoc before (i ∷ []) items)
    (last_judged names (before ++ i ∷ []) items x passed.1)

within : (a b c : Bool) (n : ℕ) → (if a then Some UndefinedLabel else if b then Some OutOfReach
    else if c then Some UnextAlone else if nat_lt 64 n then Some TooLong else None) ≡ None → n ≤ 64
within true b c n e = absurd cc
within false true c n e = absurd cc
within false false true n e = absurd cc
within false false false n e = by (nat_lt 64 n) refl e
  where
    by : (long : Bool) → nat_lt 64 n ≡ long → (if long then Some TooLong else None) ≡ None → n ≤ 64
    by true f e = absurd cc
    by false f e = ltb-false 64 n f

-- so the groups with it end at 64, or before
judged_within : (names : List (List ℕ)) (groups : List Group) (x : Item)
    → fault_behind names groups x ≡ None
    → address_after 0 groups + words_added (joins_last [] 0 groups x) x ≤ 64
unfolding fault_behind
judged_within names groups x e = within _ _ _ _ e

record Last (items : List Item) : Type 0 where
  front : List Item
  last : Item
  is : items ≡ front ++ last ∷ []

last_of : (i : Item) (items : List Item) → Last (i ∷ items)
last_of i [] = record { front = []; last = i; is = refl }
last_of i (j ∷ items) =
    let more = last_of j items in
    record { front = i ∷ more.front; last = more.last; is = ap (λ l. i ∷ l) more.is }

nothing_stands : StandIn [] []
unfolding Arrangement
nothing_stands = record { in_order = refl; arranged = tt }

few_words : (items : List Item) (groups : List Group) → StandIn items groups
    → AllPass (names_in items) [] items → address_after 0 groups ≤ 64
few_words [] groups stands passed =
    subst (λ gs. address_after 0 gs ≤ 64) (one_standing nothing_stands stands) (omega arith)
few_words (i ∷ items) groups stands passed =
    let l = last_of i items in
    let names = names_in (i ∷ items) in
    let judged : Judgement names l.front l.last None =
    last_judged names [] l.front l.last (subst (AllPass names []) l.is passed) in
    let again = add_stands names l.last judged.stand_in judged.fault_is in
    let same : add [] 0 judged.groups l.last ≡ groups =
    one_standing again (subst (λ t. StandIn t groups) l.is stands) in
    let long : address_after 0 (add [] 0 judged.groups l.last) ≤ 64 =
    subst (λ n. n ≤ 64) (sym (address_add [] 0 judged.groups l.last))
    (judged_within names judged.groups l.last judged.fault_is) in
    subst (λ gs. address_after 0 gs ≤ 64) same long

-- as many words as the groups take
words_long : (before labels : Labels) (address : ℕ) (groups : List Group) (words : List ℕ)
    → Arrangement before address groups → Words labels groups words
    → address + length words ≡ address_after address groups
unfolding Arrangement Words
words_long before labels address [] words arranged none =
    let count = ap (λ (l : List ℕ). length l) none in omega (arith, count)
words_long before labels address (Shared i is ∷ groups) words arranged
    (front, back, here, more, e) =
    let one = group_length before labels address (Shared i is) groups front arranged here in
    let others = words_long (labels_behind before address (Shared i is)) labels
    (address + size (Shared i is)) groups back arranged.2 more in
    let both = ap (λ (l : List ℕ). length l) e ∙ length-append front back in
    omega (arith, one, others, both)
words_long before labels address (Alone i ∷ groups) words arranged (front, back, here, more, e) =
    let one = group_length before labels address (Alone i) groups front arranged here in
    let others = words_long (labels_behind before address (Alone i)) labels
    (address + size (Alone i)) groups back arranged.1 more in
    let both = ap (λ (l : List ℕ). length l) e ∙ length-append front back in
    omega (arith, one, others, both)

-- each label lies at an address of these words, or behind the last
labels_near : (labels : Labels) (address : ℕ) (groups : List Group) → all_near labels ≡ true
    → address_after address groups ≤ 64 → all_near (labels_after labels address groups) ≡ true
labels_near labels address [] near few = near
labels_near labels address (Shared i is ∷ groups) near few =
    labels_near labels (address + size (Shared i is)) groups near few
labels_near labels address (Alone (Here s) ∷ groups) near few =
    let here : address ≤ 64 = let more = address_grows (address + 0) groups in
    omega (arith, more, few) in
    labels_near (labels ++ (s, address) ∷ []) (address + 0) groups
    (list_all-append (λ (label : List ℕ × ℕ). nat_le label.1 64) labels ((s, address) ∷ [])
    ∙ and_from (all_near labels) (nat_le address 64 && true) near
    (and_from (nat_le address 64) true (le-leb address 64 here) refl))
    few
labels_near labels address (Alone i ∷ groups) near few =
    labels_near labels (address + size (Alone i)) groups near few

-- ---- the image of a section

loadable : (items : List Item) (image : ImageView) → Items start items
    → AllPass (names_in items) [] items → IsImage items image → IsLoadable image
loadable items image right passed is =
    let groups = is.laid.groups in
    let few = few_words items groups is.laid.stand_in passed in
    let long =
    words_long [] image.labels 0 groups image.words is.laid.stand_in.arranged is.laid.words_are in
    let word : list_any makes_word items ≡ true = items_word start items right in
    let some = words_some 0 groups (ap (list_any makes_word) is.laid.stand_in.in_order ∙ word) in
    let near =
    near_entry image.labels (ap all_near is.laid.labels_are ∙ labels_near [] 0 groups refl few) in
    record {
      some = omega (arith, some, long);
      most = omega (arith, few, long);
      entry_near = subst (λ n. n ≤ 64) (sym is.entry_is) near;
    }

-- ---- the sections of a program without a fault

-- items without their places
erased : (places : List Place) (items : List Item)
    → map (λ (placed : PlacedItem). placed.item) (placed_items places items) ≡ items
unfolding placed_items
erased places [] = refl
erased places (item ∷ items) =
    ap (λ l. item ∷ l) (erased (drop (length (item_tokens item [])) places) items)

-- a fault is at one of the items
at_item : (items : List Item) (at : ℕ) (kind : AsmErrorKind) → AsmFault items at kind
    → at < length items
at_item items at kind (inl first) =
    let long = ap (λ (l : List Item). length l) first.split
    ∙ length-append first.before (first.item ∷ first.rest) in omega (arith, long, first.at_is)
at_item items at kind (inr second) =
    let both = ap (λ (l : List Item). length l) (sym second.stand_in.in_order)
    ∙ items_count second.front (Alone second.item ∷ second.back) in
    omega (arith, both, second.at_is)
  where
    items_count : (front back : List Group)
        → length (items_of (front ++ back)) ≡ length (items_of front) + length (items_of back)
    items_count [] back = omega arith
    items_count (Shared i is ∷ front) back =
        let more = items_count front back in
        let here = length-append is (items_of (front ++ back)) in
        let there = length-append is (items_of front) in
        omega (arith, more, here, there)
    items_count (Alone i ∷ front) back = let more = items_count front back in omega (arith, more)

record Cut (items : List PlacedItem) (at : ℕ) : Type 0 where
  front : List PlacedItem
  item : PlacedItem
  back : List PlacedItem
  split : items ≡ front ++ item ∷ back
  count : length front ≡ at

cut_at : (items : List PlacedItem) (at : ℕ) → at < length items → Cut items at
cut_at [] at below = absurd (omega (arith, below))
cut_at (i ∷ items) zero below =
    record { front = []; item = i; back = items; split = refl; count = refl }
cut_at (i ∷ items) (suc at) below =
    let more = cut_at items at (omega (arith, below)) in
    record {
      front = i ∷ more.front;
      item = more.item;
      back = more.back;
      split = ap (λ l. i ∷ l) more.split;
      count = ap suc more.count;
    }

right_more : (before : List PlacedSection) (section : PlacedSection) → AllRight before
    → IsRight (plain_items section) → AllRight (before ++ section ∷ [])
unfolding AllRight
right_more [] section all right = (right, tt)
right_more (other ∷ before) section all right = (all.0, right_more before section all.1 right)

-- of such a program no section has a fault behind sections that are right
section_right : (program before rest : List PlacedSection) (section : PlacedSection)
    → HasNoFault program → program ≡ before ++ section ∷ rest → AllRight before
    → list_all is_item (plain_items section) ≡ true → IsRight (plain_items section)
section_right program before rest section none split all items =
    by (right_or_fault (plain_items section) items)
  where
    by : IsRight (plain_items section)
        ⊎ ((at : ℕ) × (kind : AsmErrorKind) × AsmFault (plain_items section) at kind)
        → IsRight (plain_items section)
    by (inl right) = right
    by (inr (at, kind, fault)) =
        let below : at < length section.items = subst (λ n. at < n) (length-map section.items
        (λ placed. placed.item)) (at_item (plain_items section) at kind fault) in
        let c = cut_at section.items at below in
        let first : ProgramFault program section.name (fault_place c.item) kind = record {
          before = before;
          section = section;
          rest = rest;
          split = split;
          all_right = all;
          node_is = refl;
          front = c.front;
          item = c.item;
          back = c.back;
          items_split = c.split;
          fault = subst (λ n. AsmFault (plain_items section) n kind) (sym c.count) fault;
          place_is = refl;
        } in
        absurd (none section.name (fault_place c.item) kind first)

sections_loadable : (program before : List PlacedSection) (seen : List ℕ) (places : List Place)
    (sections : List Section) (images : List (ℕ × ImageView)) → HasNoFault program
    → program ≡ before ++ placed_sections places sections → AllRight before → Sections seen sections
    → IsAssembled (placed_sections places sections) images
    → AllByRecursion (λ entry. IsLoadable entry.1) images
unfolding placed_sections Sections IsAssembled
sections_loadable program before seen places [] [] none split all right assembled = tt
sections_loadable program before seen places [] (image ∷ images) none split all right assembled =
    absurd assembled
sections_loadable program before seen places
    (section ∷ sections) [] none split all right assembled =
    absurd assembled
sections_loadable program before seen places
    (section ∷ sections) (image ∷ images) none split all right assembled =
    let others = drop (2 + length (items_tokens section.items [])) places in
    let placed : PlacedSection =
    record { name = section.name; items = placed_items (drop 2 places) section.items } in
    let plain : plain_items placed ≡ section.items = erased (drop 2 places) section.items in
    let items : Items start (plain_items placed) = subst (Items start) (sym plain) right.1 in
    let is_right = section_right program before (placed_sections others sections) placed none split
    all (items_right start (plain_items placed) items) in (
      loadable (plain_items placed) image.1 items is_right.passed assembled.1,
      sections_loadable program
          (before ++ placed ∷ []) (seen ++ section.name ∷ []) others sections images none
          (split ∙ sym (append_assoc before (placed ∷ []) (placed_sections others sections)))
          (right_more before placed all is_right) right.2 assembled.2,
    )

source_sections : (text : List ℕ) (sections : List Section) → Source (tokens_of text) sections
    → Sections [] sections
unfolding Source
source_sections text [] source = absurd source
source_sections text (section ∷ sections) source = source.1

program_loadable : (text : List ℕ) (program : List PlacedSection) (images : List (ℕ × ImageView))
    → IsProgram text program → HasNoFault program → IsAssembled program images
    → AllByRecursion (λ entry. IsLoadable entry.1) images
unfolding IsProgram AllRight
program_loadable text program images (sections, source, is) none assembled =
    sections_loadable program [] [] (places_of text) sections images none is tt
    (source_sections text sections source) (subst (λ p. IsAssembled p images) is assembled)

pub images_loadable : (text : List ℕ) (images : List (ℕ × ImageView)) → HasImages text images
    → AllByRecursion (λ entry. IsLoadable entry.1) images
images_loadable text images h =
    program_loadable text h.program images h.program_is h.faultless h.assembled
