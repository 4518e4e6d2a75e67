-- The items of a node have one layout, and are laid as one list of words.
use Rattle.std.proofs.Common.{◌≡◌, ℕ, ◌+◌, true, false, List, [], ◌∷◌, ◌++◌, length, Option, refl, sym, ap, ◌∙◌, subst, append_assoc, append-nil}
use Rattle.std.proofs.lemmas.Bool.{and_parts, both_ways}
use Rattle.std.specs.Prelude.{not}
use Rattle.std.specs.List.{list_any}
use Rattle.ga_word.specs.declared.op.Op.{Op}
use Rattle.ga_word.specs.Op.{ends_word}
use Rattle.ga_pack.specs.Model.Layout.{Labels, Group, Shared, Alone, Arrangement, GroupWords, IsWord, Laid, StandIn, Words, code_end, fits, is_loose, items_of, joins, labels_after, labels_behind, literals, more_join, op_of, ops_of, size, stand}
use Rattle.ga_pack.specs.Model.Source.{Item, Instruction, Word, WordTo}
use Rattle.ga_pack.proofs.OneReading.{one_number}

-- what fits a slot is an item outside brackets
fits_loose : (labels : Labels) (address : ℕ) (ops : List Op) (i : Item)
    → fits labels address ops i ≡ true → is_loose i ≡ true
unfolding fits
fits_loose labels address ops (Instruction o) h = cc
fits_loose labels address ops _ h = cc

pub joins_loose : (labels : Labels) (address : ℕ) (ops : List Op) (i : Item)
    → joins labels address ops i ≡ true → is_loose i ≡ true
joins_loose labels address ops i h =
    fits_loose labels address ops i
    (and_parts (not (list_any ends_word ops)) (fits labels address ops i) h).1

-- of two runs of items that share a word, neither is longer than the other
same_word : (labels : Labels) (address : ℕ) (ops : List Op) (is js r s : List Item)
    → stand labels address ops is ≡ true → stand labels address ops js ≡ true
    → more_join labels address (ops ++ ops_of is) r ≡ false
    → more_join labels address (ops ++ ops_of js) s ≡ false → is ++ r ≡ js ++ s
    → (is ≡ js) × (r ≡ s)
same_word labels address ops [] [] r s stand_is stand_js no_r no_s e = (refl, e)
same_word labels address ops [] (j ∷ js) r s stand_is stand_js no_r no_s e =
    let j_joins = (and_parts (joins labels address ops j)
    (stand labels address (ops ++ op_of j ∷ []) js) stand_js).0 in
    let at_ops : more_join labels address ops r ≡ false = rw append-nil at no_r in
    let j_not : joins labels address ops j ≡ false =
    subst (λ t. more_join labels address ops t ≡ false) e at_ops in
    absurd (both_ways (joins labels address ops j) j_not j_joins)
same_word labels address ops (i ∷ is) [] r s stand_is stand_js no_r no_s e =
    let i_joins = (and_parts (joins labels address ops i)
    (stand labels address (ops ++ op_of i ∷ []) is) stand_is).0 in
    let at_ops : more_join labels address ops s ≡ false = rw append-nil at no_s in
    let i_not : joins labels address ops i ≡ false =
    subst (λ t. more_join labels address ops t ≡ false) (sym e) at_ops in
    absurd (both_ways (joins labels address ops i) i_not i_joins)
same_word labels address ops (i ∷ is) (j ∷ js) r s stand_is stand_js no_r no_s e =
    let same : i ≡ j = cc in
    let behind : is ++ r ≡ js ++ s = cc in
    let more_is = (and_parts (joins labels address ops i)
    (stand labels address (ops ++ op_of i ∷ []) is) stand_is).1 in
    let more_js = (and_parts (joins labels address ops j)
    (stand labels address (ops ++ op_of j ∷ []) js) stand_js).1 in
    let more_js' =
    subst (λ t. stand labels address (ops ++ op_of t ∷ []) js ≡ true) (sym same) more_js in
    let no_s' =
    subst (λ t. more_join labels address (ops ++ op_of t ∷ ops_of js) s ≡ false) (sym same) no_s in
    let regroup : (more : List Op) → ops ++ op_of i ∷ more ≡ (ops ++ op_of i ∷ []) ++ more =
    λ more. sym (append_assoc ops (op_of i ∷ []) more) in
    let rest = same_word labels address (ops ++ op_of i ∷ []) is js r s more_is more_js'
    (subst (λ t. more_join labels address t r ≡ false) (regroup (ops_of is)) no_r)
    (subst (λ t. more_join labels address t s ≡ false) (regroup (ops_of js)) no_s') behind in
    let same_is = rest.0 in
    ((cc), rest.1)

-- items have one arrangement at most
pub one_arrangement : (labels : Labels) (address : ℕ) (gs hs : List Group)
    → Arrangement labels address gs → Arrangement labels address hs → items_of gs ≡ items_of hs
    → gs ≡ hs
unfolding Arrangement
one_arrangement labels address [] [] p q e = refl
one_arrangement labels address [] (Shared i is ∷ hs) p q e = absurd (cc)
one_arrangement labels address
    (Shared i is ∷ gs) (Alone j ∷ hs) (stands, full, more) (alone, more') e =
    let same : i ≡ j = cc in
    let loose = joins_loose labels address [] i
    (and_parts (joins labels address [] i) (stand labels address (op_of i ∷ []) is) stands).0 in
    absurd (both_ways (is_loose i) (subst (λ t. is_loose t ≡ false) (sym same) alone) loose)
one_arrangement labels address
    (Alone j ∷ gs) (Shared i is ∷ hs) (alone, more') (stands, full, more) e =
    let same : i ≡ j = cc in
    let loose = joins_loose labels address [] i
    (and_parts (joins labels address [] i) (stand labels address (op_of i ∷ []) is) stands).0 in
    absurd (both_ways (is_loose i) (subst (λ t. is_loose t ≡ false) (sym same) alone) loose)
one_arrangement labels address (Alone i ∷ gs) (Alone j ∷ hs) (alone, more) (alone', more') e =
    let same : i ≡ j = cc in
    let behind : items_of gs ≡ items_of hs = cc in
    let more'' = subst (λ t. Arrangement (labels_behind labels address (Alone t))
    (address + size (Alone t)) hs) (sym same) more' in
    let rest = one_arrangement (labels_behind labels address (Alone i))
    (address + size (Alone i)) gs hs more more'' behind in
    cc
one_arrangement labels address
    (Shared i is ∷ gs) (Shared j js ∷ hs) (stands, full, more) (stands', full', more') e =
    let word = same_word labels address [] (i ∷ is) (j ∷ js) (items_of gs)
    (items_of hs) stands stands' full full' e in
    let same = word.0 in
    let more'' =
    subst (λ t. Arrangement labels (address + (1 + length (literals t))) hs) (sym same) more' in
    let rest = one_arrangement labels (address + size (Shared i is)) gs hs more more'' word.1 in
    cc
one_arrangement labels address _ _ p q e = absurd (cc)

pub one_standing : {items : List Item} {gs hs : List Group} → StandIn items gs → StandIn items hs
    → gs ≡ hs
one_standing {gs = gs} {hs = hs} p q =
    one_arrangement [] 0 gs hs p.arranged q.arranged (p.in_order ∙ sym q.in_order)

-- ---- one list of words

one_word_of : {v w : ℕ} {ops : List Op} {dest : Option ℕ} {spare : ℕ} → IsWord v ops dest spare
    → IsWord w ops dest spare → v ≡ w
one_word_of p q = one_number p.below q.below p.reads q.reads

one_group : (labels : Labels) (group : Group) (us vs : List ℕ) → GroupWords labels group us
    → GroupWords labels group vs → us ≡ vs
unfolding GroupWords
one_group labels (Shared i is) us vs (v, p, e) (w, q, f) = let same = one_word_of p q in cc
one_group labels (Alone (Word ops)) us vs (v, p, e) (w, q, f) = let same = one_word_of p q in cc
one_group labels (Alone (WordTo ops o d spare)) us vs (v, p, e) (w, q, f) =
    let same = one_word_of p q in cc
one_group labels (Alone i) us vs p q = p ∙ sym q

one_list : (labels : Labels) (groups : List Group) (us vs : List ℕ) → Words labels groups us
    → Words labels groups vs → us ≡ vs
unfolding Words
one_list labels [] us vs p q = p ∙ sym q
one_list labels (group ∷ groups) us vs (front, back, p, ps, e) (front', back', q, qs, f) =
    let same_front = one_group labels group front front' p q in
    let same_back = one_list labels groups back back' ps qs in
    cc

-- items are laid as one list of words, with one list of labels and one length of code
pub one_laid : {items : List Item} {us vs : List ℕ} {ls ms : Labels} {c d : ℕ} → Laid items us ls c
    → Laid items vs ms d → (us ≡ vs) × (ls ≡ ms) × (c ≡ d)
one_laid {us = us} {vs = vs} {ls = ls} {ms = ms} p q =
    let same = one_standing p.stand_in q.stand_in in
    let same_labels = p.labels_are ∙ ap (labels_after [] 0) same ∙ sym q.labels_are in
    let words' = subst (λ t. Words t q.groups vs) (sym same_labels) q.words_are in
    let words = subst (λ t. Words ls t vs) (sym same) words' in (
      one_list ls p.groups us vs p.words_are words,
      same_labels,
      p.code_is ∙ ap (code_end 0) same ∙ sym q.code_is,
    )
