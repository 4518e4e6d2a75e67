-- The items in the slots of a word are a word: it has no fault for packing.
use Rattle.std.proofs.Common.{◌≡◌, ◌||◌, inl, inr, ℕ, suc, ◌%◌, ◌^◌, ◌<◌, true, false, List, [], ◌∷◌, ◌++◌, length, Option, Some, None, refl, sym, ◌∙◌, subst, append_assoc, append-nil, arith, lit<}
use Rattle.std.proofs.Math.Nat.{mod-lt}
use Rattle.std.proofs.lemmas.Bool.{and_parts, both_ways, cases_Bool, not-true}
use Rattle.std.proofs.lemmas.Grind.{common_steps}
use Rattle.std.specs.Prelude.{not, nat_lt}
use Rattle.std.specs.List.{list_all, list_any}
use Rattle.ga_word.specs.declared.op.Op.{Op}
use Rattle.ga_word.specs.declared.op.Op.TheVariants.{Return, Execute, Nop}
use Rattle.ga_word.specs.Op.{ends_word, takes_dest}
use Rattle.ga_pack.specs.Encoding.{pack_fault}
use Rattle.ga_pack.specs.Model.Layout.{Labels, fits, is_unext, joins, last_dest, may_reach, value_number, op_of, ops_of, p_behind, stand, value_of, with_fillers}
use Rattle.ga_pack.specs.Model.Source.{Item, Instruction, Transfer, Literal, is_item}
use Rattle.ga_pack.specs.Slots.{dest_bound, op_fits}
use Rattle.ga_pack.specs.Reading.{dest_after_slot0, dest_after_slot1, dest_after_slot2, no_dest}
use Rattle.ga_pack.proofs.ItemParts.{instruction_parts, transfer_parts}
use Rattle.ga_pack.proofs.Encoded.{readable}

-- an opcode that takes a destination ends its word
pub takes_ends : (o : Op) → takes_dest o ≡ true → ends_word o ≡ true
takes_ends Return h = refl
takes_ends Execute h = refl
takes_ends o h = h

no_end : (o : Op) → ends_word o ≡ false → takes_dest o ≡ false
no_end o h =
    elim (cases_Bool (takes_dest o))
    [ inl takes ↦ absurd (both_ways (ends_word o) h (takes_ends o takes)) | inr none ↦ none ]

-- The last item of a word, in a slot: it takes a destination and is in slot 0, 1 or 2, or it takes
-- none and has room.
data Last (labels : Labels) (slot : ℕ) (x : Item) : Type 0 where
  with_dest : takes_dest (op_of x) ≡ true → slot < 3 → (n : ℕ)
      → last_dest labels slot (x ∷ []) ≡ Some (n % dest_bound slot) → Last labels slot x
  without : takes_dest (op_of x) ≡ false → op_fits slot (op_of x) ≡ true
      → last_dest labels slot (x ∷ []) ≡ None → Last labels slot x

reach_slot : (slot p : ℕ) (dest : Option ℕ) → may_reach slot p dest ≡ true → slot < 3
reach_slot slot p None h = grind (arith, common_steps)
reach_slot slot p (Some dest) h = grind (arith, common_steps)

last_is : (before labels : Labels) (address : ℕ) (ops : List Op) (x : Item) → is_item x ≡ true
    → fits before address ops x ≡ true → Last labels (length ops) x
unfolding is_item fits
last_is before labels address ops (Instruction o) right h =
    without (instruction_parts o right).0
    (and_parts (op_fits (length ops) o) (not (is_unext o) || nat_lt 0 (length ops)) h).0 refl
last_is before labels address ops (Transfer o v) right h =
    with_dest (transfer_parts o v right).0 (reach_slot (length ops) (p_behind address ops)
    (value_of before v) h) (value_number labels v) refl
last_is before labels address ops (Literal n) right h = without refl h refl
last_is before labels address ops i right h = absurd (cc)

-- what joins a word: no opcode before it ends the word
last_joins : (before labels : Labels) (address : ℕ) (ops : List Op) (x : Item) → is_item x ≡ true
    → joins before address ops x ≡ true
    → (list_any ends_word ops ≡ false) × Last labels (length ops) x
last_joins before labels address ops x right h =
    let parts = and_parts (not (list_any ends_word ops)) (fits before address ops x) h in
    (not-true (list_any ends_word ops) parts.0, last_is before labels address ops x right parts.1)

last_dest-more : (labels : Labels) (slot : ℕ) (i j : Item) (is : List Item)
    → last_dest labels slot (i ∷ j ∷ is) ≡ last_dest labels (suc slot) (j ∷ is)
last_dest-more labels slot (Transfer o v) j is = refl
last_dest-more labels slot i j is = refl

none_of1 : (a : Op) → list_any ends_word (a ∷ []) ≡ false → takes_dest a ≡ false
none_of1 a h = no_end a (grind (arith, common_steps))

none_of2 : (a b : Op) → list_any ends_word (a ∷ b ∷ []) ≡ false
    → (takes_dest a ≡ false) × (takes_dest b ≡ false)
none_of2 a b h =
    let first : ends_word a ≡ false = grind (arith, common_steps) in
    let second : ends_word b ≡ false = grind (arith, common_steps) in
    (no_end a first, no_end b second)

none_of3 : (a b c : Op) → list_any ends_word (a ∷ b ∷ c ∷ []) ≡ false
    → (takes_dest a ≡ false) × (takes_dest b ≡ false) × (takes_dest c ≡ false)
none_of3 a b c h =
    let first : ends_word a ≡ false = grind (arith, common_steps) in
    let second : ends_word b ≡ false = grind (arith, common_steps) in
    let third : ends_word c ≡ false = grind (arith, common_steps) in
    (no_end a first, no_end b second, no_end c third)

-- a word of these items, with the labels of the whole node
abbrev pub IsPackable : Labels → List Item → Type 0
IsPackable labels is =
    pack_fault (with_fillers (ops_of is) (last_dest labels 0 is)) (last_dest labels 0 is) 0 ≡ None

packable_by : (labels : Labels) (is : List Item) (dest : Option ℕ) → last_dest labels 0 is ≡ dest
    → pack_fault (with_fillers (ops_of is) dest) dest 0 ≡ None → IsPackable labels is
packable_by labels is dest e none =
    subst (λ t. pack_fault (with_fillers (ops_of is) t) t 0 ≡ None) (sym e) none

packable1 : (labels : Labels) (i : Item) → Last labels 0 i → IsPackable labels (i ∷ [])
packable1 labels i (with_dest takes slot n e) =
    packable_by labels (i ∷ []) (Some (n % 2 ^ 10)) e
    (readable (dest_after_slot0 (op_of i) 0 (n % 2 ^ 10) takes (lit< tt) (mod-lt n (lit< tt))))
packable1 labels i (without none room e) =
    packable_by labels (i ∷ []) None e
    (readable (no_dest (op_of i) Nop Nop Nop none refl refl refl))

packable2 : (labels : Labels) (i j : Item) → takes_dest (op_of i) ≡ false → Last labels 1 j
    → IsPackable labels (i ∷ j ∷ [])
packable2 labels i j none (with_dest takes slot n e) =
    packable_by labels (i ∷ j ∷ []) (Some (n % 2 ^ 8)) (last_dest-more labels 0 i j [] ∙ e)
    (readable (dest_after_slot1 (op_of i) (op_of j) (n % 2 ^ 8) none takes (mod-lt n (lit< tt))))
packable2 labels i j none (without none_j room e) =
    packable_by labels (i ∷ j ∷ []) None (last_dest-more labels 0 i j []
    ∙ e) (readable (no_dest (op_of i) (op_of j) Nop Nop none none_j refl refl))

packable3 : (labels : Labels) (i j k : Item) → (takes_dest (op_of i) ≡ false)
    × (takes_dest (op_of j) ≡ false) → Last labels 2 k → IsPackable labels (i ∷ j ∷ k ∷ [])
packable3 labels i j k none (with_dest takes slot n e) =
    packable_by labels (i ∷ j ∷ k ∷ []) (Some (n % 2 ^ 3)) (last_dest-more labels 0 i j (k ∷ [])
    ∙ last_dest-more labels 1 j k [] ∙ e)
    (readable (dest_after_slot2 (op_of i) (op_of j) (op_of k) (n % 2 ^ 3) none.0 none.1 takes
    (mod-lt n (lit< tt))))
packable3 labels i j k none (without none_k room e) =
    packable_by labels (i ∷ j ∷ k ∷ []) None
    (last_dest-more labels 0 i j (k ∷ []) ∙ last_dest-more labels 1 j k [] ∙ e)
    (readable (no_dest (op_of i) (op_of j) (op_of k) Nop none.0 none.1 none_k refl))

packable4 : (labels : Labels) (i j k m : Item) → (takes_dest (op_of i) ≡ false)
    × (takes_dest (op_of j) ≡ false) × (takes_dest (op_of k) ≡ false) → Last labels 3 m
    → IsPackable labels (i ∷ j ∷ k ∷ m ∷ [])
packable4 labels i j k m none (with_dest takes slot n e) = absurd (omega arith)
packable4 labels i j k m none (without none_m room e) =
    packable_by labels (i ∷ j ∷ k ∷ m ∷ []) None
    (last_dest-more labels 0 i j (k ∷ m ∷ []) ∙ last_dest-more labels 1 j k (m ∷ [])
    ∙ last_dest-more labels 2 k m [] ∙ e)
    (readable (no_dest (op_of i) (op_of j) (op_of k) (op_of m) none.0 none.1 none.2 room))

no_fifth : {labels : Labels} {slot : ℕ} {x : Item} → 3 < slot → Last labels slot x → ⊥
no_fifth far (with_dest takes slot n e) = absurd (omega arith)
no_fifth far (without none room e) = grind (arith, common_steps)

-- an item among others that share a word joins it behind those before it
stand_at : (before : Labels) (address : ℕ) (ops : List Op) (front : List Item) (x : Item)
    (back : List Item) → stand before address ops (front ++ x ∷ back) ≡ true
    → joins before address (ops ++ ops_of front) x ≡ true
stand_at before address ops [] x back h =
    rw append-nil
    (and_parts (joins before address ops x) (stand before address (ops ++ op_of x ∷ []) back) h).0
stand_at before address ops (i ∷ front) x back h =
    rw (← append_assoc ops (op_of i ∷ []) (ops_of front))
    (stand_at before address (ops ++ op_of i ∷ []) front x back
    (and_parts (joins before address ops i)
    (stand before address (ops ++ op_of i ∷ []) (front ++ x ∷ back)) h).1)

right_at : (front : List Item) (x : Item) (back : List Item)
    → list_all is_item (front ++ x ∷ back) ≡ true → is_item x ≡ true
right_at [] x back h = (and_parts (is_item x) (list_all is_item back) h).0
right_at (i ∷ front) x back h =
    right_at front x back (and_parts (is_item i) (list_all is_item (front ++ x ∷ back)) h).1

last_at : (before labels : Labels) (address : ℕ) (front : List Item) (x : Item) (back : List Item)
    → list_all is_item (front ++ x ∷ back) ≡ true
    → stand before address [] (front ++ x ∷ back) ≡ true
    → (list_any ends_word (ops_of front) ≡ false) × Last labels (length (ops_of front)) x
last_at before labels address front x back right stands =
    last_joins before labels address (ops_of front) x (right_at front x back right)
    (stand_at before address [] front x back stands)

-- Right items in the slots of a word are a word, with whatever labels the node has.
pub packable : (before labels : Labels) (address : ℕ) (is : List Item) → list_all is_item is ≡ true
    → 0 < length is → stand before address [] is ≡ true → IsPackable labels is
packable before labels address [] right some stands = absurd (omega arith)
packable before labels address (i ∷ []) right some stands =
    packable1 labels i (last_at before labels address [] i [] right stands).1
packable before labels address (i ∷ j ∷ []) right some stands =
    let last = last_at before labels address (i ∷ []) j [] right stands in
    packable2 labels i j (none_of1 (op_of i) last.0) last.1
packable before labels address (i ∷ j ∷ k ∷ []) right some stands =
    let last = last_at before labels address (i ∷ j ∷ []) k [] right stands in
    packable3 labels i j k (none_of2 (op_of i) (op_of j) last.0) last.1
packable before labels address (i ∷ j ∷ k ∷ m ∷ []) right some stands =
    let last = last_at before labels address (i ∷ j ∷ k ∷ []) m [] right stands in
    packable4 labels i j k m (none_of3 (op_of i) (op_of j) (op_of k) last.0) last.1
packable before labels address (i ∷ j ∷ k ∷ m ∷ n ∷ is) right some stands =
    absurd
    (no_fifth (lit< tt) (last_at before labels address (i ∷ j ∷ k ∷ m ∷ []) n is right stands).1)
