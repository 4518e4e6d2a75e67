-- As many words have a place as an image has.
use Rattle.std.proofs.Common.{◌≡◌, ◌∙◌, ℕ, suc, ◌+◌, true, List, [], ◌∷◌, ◌++◌, length, map, drop, take, refl, sym, ap, arith}
use Rattle.std.proofs.Math.Seq.{drop-append_seam, take-append_seam}
use Rattle.std.proofs.lemmas.List.{length-append, length-map}
use Rattle.std.specs.Prelude.{if◌then◌else◌}
use Rattle.ga_pack.specs.Model.Layout.{Labels, Group, Shared, Alone, Arrangement, Words, is_loose, items_of, labels_behind, literals, size}
use Rattle.ga_pack.specs.Model.Program.{PlacedItem, place_at}
use Rattle.ga_pack.specs.Model.Source.{Item, Instruction, Transfer, Literal, Here, Align, Word, WordTo, Plain, Data, makes_word}
use Rattle.ga_asm.specs.Image.{ImageView, IsImage, item_count}
use Rattle.ga_asm.specs.Places.{first_items, indices_in_group, literal_indices, word_places}
use Rattle.ga_asm.proofs.Groups.{count_members, group_length, items_cons, members, shared_loose}

-- the followers of a word are the numbers among its items
literal_count : (at : ℕ) (is : List Item) → length (literal_indices at is) ≡ length (literals is)
literal_count at [] = refl
literal_count at (Literal n ∷ is) = ap suc (literal_count (suc at) is)
literal_count at (i ∷ is) = literal_count (suc at) is

loose_makes : (i : Item) → is_loose i ≡ true → makes_word i ≡ true
loose_makes (Instruction o) loose = refl
loose_makes (Transfer o v) loose = refl
loose_makes (Literal n) loose = refl
loose_makes i loose = absurd (cc)

-- the words of a group
group_count : (before : Labels) (address at : ℕ) (g : Group) (back : List Group)
    → Arrangement before address (g ∷ back) → length (indices_in_group at (members g)) ≡ size g
unfolding Arrangement
group_count before address at (Shared i is) back arranged =
    let makes = loose_makes i (shared_loose before address i is arranged.0) in
    let first =
    ap (λ b. length ((if b then at ∷ [] else []) ++ literal_indices at (i ∷ is))) makes in
    let others = literal_count at (i ∷ is) in
    omega arith
group_count before address at (Alone (Word ops)) back arranged = refl
group_count before address at (Alone (WordTo ops o v spare)) back arranged = refl
group_count before address at (Alone (Plain v)) back arranged = refl
group_count before address at (Alone (Here s)) back arranged = refl
group_count before address at (Alone Align) back arranged = refl
group_count before address at (Alone Data) back arranged = refl
group_count before address at (Alone i) back arranged = absurd (let alone = arranged.0 in cc)

-- the groups behind one are arranged
behind : (before : Labels) (address : ℕ) (g : Group) (groups : List Group)
    → Arrangement before address (g ∷ groups)
    → Arrangement (labels_behind before address g) (address + size g) groups
unfolding Arrangement
behind before address (Shared i is) groups arranged = arranged.2
behind before address (Alone i) groups arranged = arranged.1

-- the words of groups
groups_count : (before labels : Labels) (address at : ℕ) (groups : List Group) (words : List ℕ)
    → Arrangement before address groups → Words labels groups words
    → length (first_items at (map item_count groups) (items_of groups)) ≡ length words
unfolding Words
groups_count before labels address at [] words arranged none = sym (ap length none)
groups_count before labels address at (g ∷ groups) words arranged (front, back, here, more, e) =
    let counts = map item_count groups in
    let items = items_of (g ∷ groups) in
    let first : take (item_count g) items ≡ members g =
    ap (λ n. take n items) (count_members g) ∙ ap (take (length (members g))) (items_cons g groups)
    ∙ take-append_seam (members g) (items_of groups) in
    let others : drop (item_count g) items ≡ items_of groups =
    ap (λ n. drop n items) (count_members g) ∙ ap (drop (length (members g))) (items_cons g groups)
    ∙ drop-append_seam (members g) (items_of groups) in
    let split : first_items at (item_count g ∷ counts) items ≡ indices_in_group at (members g)
    ++ first_items (at + length (members g)) counts (items_of groups) =
    ap (λ group. indices_in_group at group
    ++ first_items (at + length group) counts (drop (item_count g) items)) first
    ∙ ap (λ rest. indices_in_group at (members g)
    ++ first_items (at + length (members g)) counts rest) others in
    let sum = length-append (indices_in_group at (members g))
    (first_items (at + length (members g)) counts (items_of groups)) in
    let group = group_count before address at g groups arranged in
    let made = group_length before labels address g groups front arranged here in
    let rest = groups_count (labels_behind before address g) labels (address + size g)
    (at + length (members g)) groups back (behind before address g groups arranged) more in
    let whole = ap length e ∙ length-append front back in
    ap length split ∙ sum
    ∙ ap (λ n. n + length (first_items (at + length (members g)) counts (items_of groups)))
    (group ∙ sym made)
    ∙ ap (λ n. length front + n) rest ∙ sym whole

pub as_many : (items : List PlacedItem) (image : ImageView)
    → IsImage (map (λ placed. placed.item) items) image
    → length (word_places image.item_counts items) ≡ length image.words
unfolding word_places
as_many items image is =
    let laid = is.laid in
    let own = map (λ (placed : PlacedItem). placed.item) items in
    length-map (first_items 0 image.item_counts own)
    (place_at (map (λ (placed : PlacedItem). placed.place) items))
    ∙ ap (λ counts. length (first_items 0 counts own)) is.counts_are
    ∙ ap (λ items. length (first_items 0 (map item_count laid.groups) items))
    (sym laid.stand_in.in_order)
    ∙ groups_count [] image.labels 0 0 laid.groups image.words laid.stand_in.arranged laid.words_are
