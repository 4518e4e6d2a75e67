-- Faults of items that were worked out by hand.
use Rattle.std.proofs.Common.{◌≡◌, ◌&&◌, inl, inr, ℕ, zero, suc, Bool, true, false, not, List, [], ◌∷◌, ◌++◌, length, Option, Some, None, refl, ap, ◌+◌}
use Rattle.std.specs.Prelude.{codes, map}
use Rattle.std.specs.List.{list_all}
use Rattle.std.specs.Option.{is_none}
use Rattle.std.proofs.lemmas.Bool.{and_parts, not-true}
use Rattle.ga_word.specs.declared.op.Op.TheVariants.{Jump, Micronext, Drop, Dup, Nop}
use Rattle.ga_pack.specs.Model.Layout.{Labels, Alone, Arrangement, is_loose, items_of, labels_behind, names_in, size}
use Rattle.ga_pack.specs.Model.LayoutFault.{AsmFault, Judgement, AllPass, fault_at, fault_behind}
use Rattle.ga_pack.specs.Model.Source.{Item, Label, Instruction, Transfer, Literal, Here, Word, WordTo, Plain}
use Rattle.ga_pack.specs.declared.error_kind.AsmErrorKind.{AsmErrorKind}
use Rattle.ga_pack.specs.declared.error_kind.AsmErrorKind.TheVariants.{UndefinedLabel, OutOfReach, UnextAlone, TooLong}

-- ---- an item at an address

-- the 64th word, and the 65th
at_address : (fault_at [] [] 63 false (Word (Nop ∷ [])) ≡ None)
    × (fault_at [] [] 64 false (Word (Nop ∷ [])) ≡ Some TooLong)
    -- a number's follower is the 64th word, and the 65th, of a word of its own and of a shared word
    × (fault_at [] [] 62 false (Literal 5) ≡ None)
    × (fault_at [] [] 63 false (Literal 5) ≡ Some TooLong)
    × (fault_at [] [] 64 true (Literal 5) ≡ Some TooLong)
    -- an item that joins the 64th word, and a label behind it
    × (fault_at [] [] 64 true (Instruction Dup) ≡ None)
    × (fault_at (codes "x" ∷ []) [] 64 false (Here (codes "x")) ≡ None)
    -- the other faults come before it
    × (fault_at [] [] 64 false (Plain (Label (codes "x"))) ≡ Some UndefinedLabel)
    × (fault_at [] [] 64 false (Instruction Micronext) ≡ Some UnextAlone)
    × (fault_at [] [] 8 true (Instruction Micronext) ≡ None)
at_address = (refl, refl, refl, refl, refl, refl, refl, refl, refl, refl)

-- ---- items that share no word

abbrev is_alone : Item → Bool
is_alone i = not (is_loose i)

arranged_alone : (labels : Labels) (address : ℕ) (items : List Item)
    → list_all is_alone items ≡ true → Arrangement labels address (map Alone items)
unfolding Arrangement
arranged_alone labels address [] h = tt
arranged_alone labels address (i ∷ is) h =
    let parts = and_parts (is_alone i) (list_all is_alone is) h in (
      not-true (is_loose i) parts.0,
      arranged_alone (labels_behind labels address (Alone i)) (address + size (Alone i)) is parts.1,
    )

items_alone : (items : List Item) → items_of (map Alone items) ≡ items
items_alone [] = refl
items_alone (i ∷ is) = ap (λ t. i ∷ t) (items_alone is)

judged_alone : (names : List (List ℕ)) (before : List Item) (item : Item)
    (fault : Option AsmErrorKind) → list_all is_alone before ≡ true
    → fault_behind names (map Alone before) item ≡ fault → Judgement names before item fault
judged_alone names before item fault alone is = record {
  groups = map Alone before;
  stand_in = record { in_order = items_alone before; arranged = arranged_alone [] 0 before alone };
  fault_is = is;
}

-- a test that they pass
abbrev all_pass : List (List ℕ) → List Item → List Item → Bool
all_pass names before [] = true
all_pass names before (i ∷ is) =
    list_all is_alone before && is_none (fault_behind names (map Alone before) i)
    && all_pass names (before ++ i ∷ []) is

none-is : (fault : Option AsmErrorKind) → is_none fault ≡ true → fault ≡ None
none-is None h = refl
none-is (Some kind) h = cc

passed_alone : (names : List (List ℕ)) (before items : List Item)
    → all_pass names before items ≡ true → AllPass names before items
unfolding AllPass
passed_alone names before [] h = tt
passed_alone names before (i ∷ is) h =
    let fault = fault_behind names (map Alone before) i in
    let parts = and_parts (list_all is_alone before && is_none fault)
    (all_pass names (before ++ i ∷ []) is) h in
    let here = and_parts (list_all is_alone before) (is_none fault) parts.0 in (
      judged_alone names before i None here.0 (none-is fault here.1),
      passed_alone names (before ++ i ∷ []) is parts.1,
    )

-- ---- the first fault of a node

-- the last of some items has it
first_fault : {items : List Item} {at : ℕ} {kind : AsmErrorKind} (before : List Item) (item : Item)
    → (items ≡ before ++ item ∷ []) × (at ≡ length before) → AllPass (names_in items) [] before
    → list_all is_alone before ≡ true
    → fault_behind (names_in items) (map Alone before) item ≡ Some kind → AsmFault items at kind
first_fault {items = items} {kind = kind} before item split passed alone is = inl (record {
  before = before;
  item = item;
  rest = [];
  split = split.0;
  at_is = split.1;
  passed = passed;
  judged = judged_alone (names_in items) before item (Some kind) alone is;
})

abbrev dots : ℕ → List Item
dots zero = []
dots (suc n) = Word (Nop ∷ []) ∷ dots n

-- 64 times `[ . ]` pass, and a 65th is too long
pub full : AllPass [] [] (dots 64)
unfolding fault_behind
full = passed_alone [] [] (dots 64) refl

pub overfull : AsmFault (dots 65) 64 TooLong
unfolding fault_behind
overfull =
    first_fault (dots 64)
    (Word (Nop ∷ [])) (refl, refl) (passed_alone [] [] (dots 64) refl) refl refl

-- `jump x`
pub undefined : AsmFault (Transfer Jump (Label (codes "x")) ∷ []) 0 UndefinedLabel
unfolding fault_behind AllPass
undefined = first_fault [] (Transfer Jump (Label (codes "x"))) (refl, refl) tt refl refl

-- `unext`
pub unext_alone : AsmFault (Instruction Micronext ∷ []) 0 UnextAlone
unfolding fault_behind AllPass
unext_alone = first_fault [] (Instruction Micronext) (refl, refl) tt refl refl

abbrev back : List ℕ
back = codes "back"

abbrev to_back : Item
to_back = WordTo (Dup ∷ Drop ∷ []) Jump (Label back) None

abbrev in_front : List Item
in_front = dots 2 ++ Here back ∷ dots 6

-- two words, `back:`, six words, `[ dup drop jump back ]`: at 008 P is 009, in another page than
-- 002
pub another_page : AsmFault (in_front ++ to_back ∷ []) 9 OutOfReach
unfolding fault_behind
another_page =
    first_fault in_front to_back (refl, refl) (passed_alone (back ∷ []) [] in_front refl) refl refl

-- `[ dup drop jump back ]`, seven words, `back:` and a word: at 000 P is 001, in another page than
-- 008
abbrev to_later : List Item
to_later = to_back ∷ (dots 7 ++ Here back ∷ dots 1)

pub later_page : AsmFault to_later 0 OutOfReach
unfolding fault_behind
later_page = inr (record {
  passed = passed_alone (back ∷ []) [] to_later refl;
  front = [];
  item = to_back;
  back = map Alone (dots 7 ++ Here back ∷ dots 1);
  stand_in = record { in_order = refl; arranged = arranged_alone [] 0 to_later refl };
  front_near = refl;
  item_far = refl;
  at_is = refl;
  kind_is = refl;
})
