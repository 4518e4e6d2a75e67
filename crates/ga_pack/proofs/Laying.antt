-- Right items are laid as words, or have a fault.
use Rattle.std.proofs.Common.{◌≡◌, ◌⊎◌, inl, inr, ℕ, ◌+◌, ◌^◌, ◌<◌, true, List, [], ◌∷◌, ◌++◌, length, Option, Some, None, refl, sym, subst, arith, lit<}
use Rattle.std.proofs.Math.Nat.{mod-lt}
use Rattle.std.proofs.lemmas.Bool.{and_from, and_parts, ltb-true}
use Rattle.std.proofs.lemmas.Grind.{common_steps}
use Rattle.std.specs.List.{list_all}
use Rattle.std.specs.Option.{unwrap_or}
use Rattle.ga_word.specs.declared.op.Op.{Op}
use Rattle.ga_word.specs.declared.op.Op.TheVariants.{Nop}
use Rattle.ga_word.specs.Op.{takes_dest}
use Rattle.ga_pack.specs.Encoding.{pack_fault}
use Rattle.ga_pack.specs.Model.Layout.{Labels, Group, Shared, Alone, Arrangement, GroupWords, IsWord, Words, dest_in, filled, is_defined, items_of, labels_after, labels_behind, last_dest, code_end, literals, names_in, value_number, ops_of, size, with_fillers}
use Rattle.ga_pack.specs.Model.LayoutFault.{IsRight, AllPass, fault_behind}
use Rattle.ga_pack.specs.Model.Source.{Item, Value, Word, WordTo, Plain, is_item, is_spare, stand_from}
use Rattle.ga_pack.specs.Reading.{dest_after_slot0, dest_after_slot1, dest_after_slot2, no_dest}
use Rattle.ga_pack.proofs.Encodable.{encodable}
use Rattle.ga_pack.proofs.ItemParts.{all_parts, stand_parts, word_parts, word_to_parts}
use Rattle.ga_pack.proofs.Encoded.{readable}
use Rattle.ga_pack.proofs.Packable.{packable}
use Rattle.ga_pack.proofs.Placed.{SomeFault, Standing, standing_or_fault}

-- ---- bracketed words

packable_from0 : (ops : List Op) → 0 < length ops → stand_from 0 ops ≡ true
    → pack_fault (filled 4 ops) None 0 ≡ None
packable_from0 [] some h = absurd (omega arith)
packable_from0 (a ∷ []) some h =
    let p = stand_parts 0 a [] h in readable (no_dest a Nop Nop Nop p.0 refl refl refl)
packable_from0 (a ∷ b ∷ []) some h =
    let p = stand_parts 0 a (b ∷ []) h in
    let q = stand_parts 1 b [] p.2 in
    readable (no_dest a b Nop Nop p.0 q.0 refl refl)
packable_from0 (a ∷ b ∷ c ∷ []) some h =
    let p = stand_parts 0 a (b ∷ c ∷ []) h in
    let q = stand_parts 1 b (c ∷ []) p.2 in
    let r = stand_parts 2 c [] q.2 in
    readable (no_dest a b c Nop p.0 q.0 r.0 refl)
packable_from0 (a ∷ b ∷ c ∷ d ∷ []) some h =
    let p = stand_parts 0 a (b ∷ c ∷ d ∷ []) h in
    let q = stand_parts 1 b (c ∷ d ∷ []) p.2 in
    let r = stand_parts 2 c (d ∷ []) q.2 in
    let s = stand_parts 3 d [] r.2 in
    readable (no_dest a b c d p.0 q.0 r.0 s.1)
packable_from0 (a ∷ b ∷ c ∷ d ∷ e ∷ ops) some h =
    let p = stand_parts 0 a (b ∷ c ∷ d ∷ e ∷ ops) h in
    let q = stand_parts 1 b (c ∷ d ∷ e ∷ ops) p.2 in
    let r = stand_parts 2 c (d ∷ e ∷ ops) q.2 in
    let s = stand_parts 3 d (e ∷ ops) r.2 in
    let t = (stand_parts 4 e ops s.2).1 in
    absurd (cc)

pub packable_word : (ops : List Op) → is_item (Word ops) ≡ true
    → pack_fault (filled 4 ops) None 0 ≡ None
packable_word ops h =
    let parts = word_parts ops h in packable_from0 ops (ltb-true 0 (length ops) parts.0) parts.1

spare_below : (spare : Option ℕ) → is_spare 0 spare ≡ true → unwrap_or spare 0 < 2 ^ 3
spare_below None h = lit< tt
spare_below (Some spare) h = ltb-true spare 8 h

packable_to : (labels : Labels) (ops : List Op) (o : Op) (v : Value) (spare : Option ℕ)
    → stand_from 0 ops ≡ true → length ops < 3 → takes_dest o ≡ true
    → is_spare (length ops) spare ≡ true
    → pack_fault (ops ++ o ∷ []) (Some (dest_in labels (length ops) v)) (unwrap_or spare 0) ≡ None
packable_to labels [] o v spare stands few takes fits =
    readable (dest_after_slot0 o (unwrap_or spare 0) (dest_in labels 0 v) takes
    (spare_below spare fits) (mod-lt (value_number labels v) (lit< tt)))
packable_to labels (a ∷ []) o v None stands few takes fits =
    readable (dest_after_slot1 a o (dest_in labels 1 v) (stand_parts 0 a [] stands).0 takes
    (mod-lt (value_number labels v) (lit< tt)))
packable_to labels (a ∷ []) o v (Some spare) stands few takes fits = absurd (cc)
packable_to labels (a ∷ b ∷ []) o v None stands few takes fits =
    let p = stand_parts 0 a (b ∷ []) stands in
    readable (dest_after_slot2 a b o (dest_in labels 2 v) p.0 (stand_parts 1 b [] p.2).0 takes
    (mod-lt (value_number labels v) (lit< tt)))
packable_to labels (a ∷ b ∷ []) o v (Some spare) stands few takes fits = absurd (cc)
packable_to labels (a ∷ b ∷ c ∷ ops) o v spare stands few takes fits = absurd (omega arith)

pub packable_word_to : (labels : Labels) (ops : List Op) (o : Op) (v : Value) (spare : Option ℕ)
    → is_item (WordTo ops o v spare) ≡ true
    → pack_fault (ops ++ o ∷ []) (Some (dest_in labels (length ops) v)) (unwrap_or spare 0) ≡ None
packable_word_to labels ops o v spare h =
    let is = word_to_parts ops o v spare h in
    packable_to labels ops o v spare is.stands (ltb-true (length ops) 3 is.short) is.dest is.spare

-- ---- the words of groups

some_word : (ops : List Op) (dest : Option ℕ) (spare : ℕ)
    → pack_fault (with_fillers ops dest) dest spare ≡ None → (word : ℕ) × IsWord word ops dest spare
some_word ops dest spare none =
    let found = encodable (with_fillers ops dest) dest spare none in
    (found.0, record { below = found.1; reads = found.2 })

alone_words : (labels : Labels) (i : Item) → is_item i ≡ true
    → (words : List ℕ) × GroupWords labels (Alone i) words
unfolding GroupWords
alone_words labels (Word ops) right =
    let found = some_word ops None 0 (packable_word ops right) in
    (found.0 ∷ [], (found.0, found.1, refl))
alone_words labels (WordTo ops o v spare) right =
    let found = some_word (ops ++ o ∷ []) (Some (dest_in labels (length ops) v)) (unwrap_or spare 0)
    (packable_word_to labels ops o v spare right) in
    (found.0 ∷ [], (found.0, found.1, refl))
alone_words labels (Plain v) right = (value_number labels v ∷ [], refl)
alone_words labels i right = ([], refl)

some_words : (before labels : Labels) (address : ℕ) (groups : List Group)
    → Arrangement before address groups → list_all is_item (items_of groups) ≡ true
    → (words : List ℕ) × Words labels groups words
unfolding Arrangement Words GroupWords
some_words before labels address [] arranged right = ([], refl)
some_words before labels address (Shared i is ∷ groups) arranged right =
    let parts = all_parts (i ∷ is) (items_of groups) right in
    let word = some_word (ops_of (i ∷ is)) (last_dest labels 0 (i ∷ is)) 0
    (packable before labels address (i ∷ is) parts.0 (omega arith) arranged.0) in
    let rest = some_words before labels (address + size (Shared i is)) groups arranged.2 parts.1
    in (
      (word.0 ∷ literals (i ∷ is)) ++ rest.0,
      (word.0 ∷ literals (i ∷ is), rest.0, (word.0, word.1, refl), rest.1, refl),
    )
some_words before labels address (Alone i ∷ groups) arranged right =
    let parts = and_parts (is_item i) (list_all is_item (items_of groups)) right in
    let here = alone_words labels i parts.0 in
    let rest = some_words (labels_behind before address (Alone i)) labels
    (address + size (Alone i)) groups arranged.1 parts.1 in
    (here.0 ++ rest.0, (here.0, rest.0, here.1, rest.1, refl))

-- ---- the items

no_fault_defined : (names : List (List ℕ)) (groups : List Group) (i : Item)
    → fault_behind names groups i ≡ None → is_defined names i ≡ true
unfolding fault_behind
no_fault_defined names groups i h = grind (arith, common_steps)

pub all_defined : (names : List (List ℕ)) (before items : List Item) → AllPass names before items
    → list_all (is_defined names) items ≡ true
unfolding AllPass
all_defined names before [] passed = refl
all_defined names before (i ∷ items) passed =
    and_from (is_defined names i) (list_all (is_defined names) items)
    (no_fault_defined names passed.0.groups i passed.0.fault_is)
    (all_defined names (before ++ i ∷ []) items passed.1)

standing_right : (items : List Item) → list_all is_item items ≡ true → Standing items
    → IsRight items
standing_right items right standing =
    let labels = labels_after [] 0 standing.groups in
    let right' = subst (λ t. list_all is_item t ≡ true) (sym standing.stand_in.in_order) right in
    let words = some_words [] labels 0 standing.groups standing.stand_in.arranged right' in
    record {
      words = words.0;
      labels = labels;
      code_len = code_end 0 standing.groups;
      laid = record {
        groups = standing.groups;
        stand_in = standing.stand_in;
        labels_are = refl;
        all_defined = all_defined (names_in items) [] items standing.passed;
        in_reach = standing.in_reach;
        words_are = words.1;
        code_is = refl;
      };
      passed = standing.passed;
    }

-- items that are right by themselves are laid as words without a fault, or have a first fault
pub right_or_fault : (items : List Item) → list_all is_item items ≡ true
    → IsRight items ⊎ SomeFault items
right_or_fault items right =
    elim (standing_or_fault items)
    [ inl standing ↦ inl (standing_right items right standing) | inr fault ↦ inr fault ]
