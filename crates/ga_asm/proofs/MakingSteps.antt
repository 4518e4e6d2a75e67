-- The words of the groups, one group at a time.
use Rattle.std.proofs.Common.{◌≡◌, ◌∙◌, ◌<◌, ◌≤◌, ℕ, suc, ◌+◌, true, false, List, [], ◌∷◌, ◌++◌, length, get_or, Result, Ok, Err, OnOk, refl, sym, ap, subst, append_assoc, append-nil, arith}
use Rattle.ga_word.specs.declared.op.Op.{Op}
use Rattle.ga_word.specs.declared.op.Op.TheVariants.{Nop}
use Rattle.ga_pack.specs.Model.Layout.{Labels, Shared, Alone, GroupWords, IsWord, filled, is_loose, last_dest, literals, ops_of}
use Rattle.std.specs.List.{slice_get}
use Rattle.std.specs.Option.{unwrap_or}
use Rattle.std.specs.Prelude.{if◌then◌else◌}
use Rattle.ga_pack.specs.Model.Source.{Item, Literal, Transfer, is_item}
use Rattle.ga_source.specs.declared.item.Item as an
use Rattle.ga_source.specs.Item.{item_of}
use Rattle.ga_asm.specs.inner.Layout.{plain}
use Rattle.ga_asm.specs.inner.Making.{IsGroup, IsGroupBy, IsPackable, MoreWords, item_dest}

-- ---- a word

pub filled_four : (ops : List Op) → length ops ≤ 4
    → unwrap_or (slice_get ops 0) Nop ∷ unwrap_or (slice_get ops 1) Nop
    ∷ unwrap_or (slice_get ops 2) Nop ∷ unwrap_or (slice_get ops 3) Nop ∷ [] ≡ filled 4 ops
filled_four (a ∷ b ∷ c ∷ d ∷ e ∷ ops) h = absurd (omega arith)
filled_four _ h = refl

one_dest : (labels : Labels) (slot n : ℕ) (x : Item) → n ≡ slot
    → last_dest labels slot (x ∷ []) ≡ item_dest labels n x
one_dest labels slot n x e = rw e (by x)
  where
    by : (x : Item) → last_dest labels slot (x ∷ []) ≡ item_dest labels slot x
    by (Transfer o v) = refl
    by x = refl

skip_dest : (labels : Labels) (slot : ℕ) (i j : Item) (is : List Item)
    → last_dest labels slot (i ∷ j ∷ is) ≡ last_dest labels (suc slot) (j ∷ is)
skip_dest labels slot (Transfer o v) j is = refl
skip_dest labels slot i j is = refl

pub dest_snoc : (labels : Labels) (slot n : ℕ) (is : List Item) (x : Item) → n ≡ slot + length is
    → last_dest labels slot (is ++ x ∷ []) ≡ item_dest labels n x
dest_snoc labels slot n [] x e = one_dest labels slot n x (omega arith)
dest_snoc labels slot n (i ∷ []) x e =
    skip_dest labels slot i x [] ∙ one_dest labels (suc slot) n x (omega arith)
dest_snoc labels slot n (i ∷ j ∷ is) x e =
    skip_dest labels slot i j (is ++ x ∷ [])
    ∙ dest_snoc labels (suc slot) n (j ∷ is) x (omega arith)

pub literals_append : (is js : List Item) → literals (is ++ js) ≡ literals is ++ literals js
literals_append [] js = refl
literals_append (Literal n ∷ is) js = ap (λ r. n ∷ r) (literals_append is js)
literals_append (i ∷ is) js = literals_append is js

pub followers_some : (old words more : List ℕ) (all front : List Item) (x : Item) (n : ℕ)
    → all ≡ front ++ x ∷ [] → words ≡ old ++ literals front → literals (x ∷ []) ≡ n ∷ []
    → more ≡ words ++ n ∷ [] → more ≡ old ++ literals all
followers_some old words more all front x n all_is words_are one more_are =
    more_are ∙ ap (λ t. t ++ n ∷ []) words_are ∙ append_assoc old (literals front) (n ∷ [])
    ∙ ap (λ t. old ++ (literals front ++ t)) (sym one)
    ∙ ap (λ t. old ++ t) (sym (literals_append front (x ∷ [])) ∙ ap literals (sym all_is))

pub followers_none : (old words more : List ℕ) (all front : List Item) (x : Item)
    → all ≡ front ++ x ∷ [] → words ≡ old ++ literals front → literals (x ∷ []) ≡ [] → more ≡ words
    → more ≡ old ++ literals all
followers_none old words more all front x all_is words_are none more_are =
    more_are ∙ words_are ∙ ap (λ t. old ++ t) (sym (append-nil (literals front))
    ∙ ap (λ t. literals front ++ t) (sym none) ∙ sym (literals_append front (x ∷ []))
    ∙ ap literals (sym all_is))

-- ---- the words of a group

pub group_some : (labels : Labels) (items : List an.Item) → IsGroup labels (plain items)
    → 0 < length items
unfolding IsGroup
group_some labels [] group = absurd group
group_some labels (i ∷ items) group = omega arith

pub plain_length : (items : List an.Item) → length (plain items) ≡ length items
plain_length [] = refl
plain_length (i ∷ items) = let e = plain_length items in omega arith

pub group_shared : (labels : Labels) (items : List an.Item) (d : an.Item)
    → IsGroup labels (plain items) → is_loose (item_of (get_or items 0 d)) ≡ true
    → (length items ≤ 4) × IsPackable (ops_of (plain items)) (last_dest labels 0 (plain items)) 0
unfolding IsGroup
group_shared labels [] d group loose = absurd group
group_shared labels (i ∷ items) d group loose =
    let shared = subst (λ b. IsGroupBy labels b (item_of i) (plain items)) loose group in
    let few = shared.0 in
    let e = plain_length items in
    (omega arith, shared.1)

pub group_alone : (labels : Labels) (items : List an.Item) (d : an.Item)
    → IsGroup labels (plain items) → is_loose (item_of (get_or items 0 d)) ≡ false
    → is_item (item_of (get_or items 0 d)) ≡ true
unfolding IsGroup
group_alone labels [] d group alone = absurd group
group_alone labels (i ∷ items) d group alone =
    subst (λ b. IsGroupBy labels b (item_of i) (plain items)) alone group

pub shared_more : (labels : Labels) (items : List an.Item) (d : an.Item) (word : ℕ)
    (words one more : List ℕ) → 0 < length items → is_loose (item_of (get_or items 0 d)) ≡ true
    → IsWord word (ops_of (plain items)) (last_dest labels 0 (plain items)) 0
    → one ≡ words ++ word ∷ [] → more ≡ one ++ literals (plain items)
    → MoreWords labels (plain items) words more
unfolding MoreWords GroupWords
shared_more labels [] d word words one more some loose is_word one_is more_is = absurd (omega arith)
shared_more labels (i ∷ items) d word words one more some loose is_word one_is more_is =
    let new = word ∷ literals (plain (i ∷ items)) in
    let made : GroupWords labels (Shared (item_of i) (plain items)) new = (word, is_word, refl) in (
      new,
      subst (λ b. GroupWords labels
          (if b then Shared (item_of i) (plain items) else Alone (item_of i)) new) (sym loose) made,
      more_is ∙ ap (λ t. t ++ literals (plain (i ∷ items))) one_is
          ∙ append_assoc words (word ∷ []) (literals (plain (i ∷ items))),
    )

pub alone_more : (labels : Labels) (items : List an.Item) (d : an.Item) (words more : List ℕ)
    → 0 < length items → is_loose (item_of (get_or items 0 d)) ≡ false → ((new : List ℕ)
    × GroupWords labels (Alone (item_of (get_or items 0 d))) new × (more ≡ words ++ new))
    → MoreWords labels (plain items) words more
unfolding MoreWords
alone_more labels [] d words more some alone made = absurd (omega arith)
alone_more labels (i ∷ items) d words more some alone made = (
  made.0,
  subst (λ b. GroupWords labels (if b then Shared (item_of i) (plain items)
      else Alone (item_of i)) made.0) (sym alone) made.1,
  made.2,
)

pub on_ok : {A E P Q : Type 0} (r : Result A E) → (P → Q) → OnOk r P → OnOk r Q
on_ok (Ok a) f p = f p
on_ok (Err e) f p = p
