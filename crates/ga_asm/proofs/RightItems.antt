-- What right items of a section are.
use Rattle.std.proofs.Common.{◌≡◌, ◌<◌, ℕ, ◌+◌, Bool, true, false, List, [], ◌∷◌, ◌++◌, length, refl, sym, ap, subst, append_assoc, append-nil, arith}
use Rattle.std.proofs.lemmas.Bool.{and_from}
use Rattle.std.specs.Prelude.{◌||◌, if◌then◌else◌}
use Rattle.std.specs.List.{list_all, list_any}
use Rattle.ga_pack.specs.Model.Layout.{Group, Shared, Alone, address_after, items_of, names_in, size}
use Rattle.ga_pack.specs.Model.Source.{Before, Item, Here, Items, after, is_item, is_new, labels_with, makes_word, start}
use Rattle.ga_source.specs.declared.item.Item as an
use Rattle.ga_asm.specs.inner.Layout.{plain}
use Rattle.ga_pack.proofs.ByCases.{on_test}
use Rattle.ga_asm.proofs.Summary.{address_grows}

-- each is right by itself
pub items_right : (b : Before) (items : List Item) → Items b items → list_all is_item items ≡ true
unfolding Items
items_right b [] right = refl
items_right b (i ∷ items) right =
    and_from (is_item i) (list_all is_item items) right.1
    (items_right (after b i right.0) items right.4)

-- each label is new
names_more : (i : Item) (labels : List (List ℕ)) (front : List Item)
    → labels_with i labels ++ names_in front ≡ labels ++ names_in (i ∷ front)
names_more (Here s) labels front = append_assoc labels (s ∷ []) (names_in front)
names_more _ labels front = refl

pub items_new : (b : Before) (front : List Item) (x : Item) (back : List Item)
    → Items b (front ++ x ∷ back) → is_new x (b.labels ++ names_in front) ≡ true
unfolding Items
items_new b [] x back right = subst (λ t. is_new x t ≡ true) (sym (append-nil b.labels)) right.2
items_new b (i ∷ front) x back right =
    subst (λ t. is_new x t ≡ true) (names_more i b.labels front)
    (items_new (after b i right.0) front x back right.4)

-- one of them makes a word
pub items_word : (b : Before) (items : List Item) → Items b items
    → (b.has_word || list_any makes_word items) ≡ true
unfolding Items
items_word b [] right = ap (λ t. t || false) right
items_word b (i ∷ items) right =
    by b.has_word (makes_word i) (list_any makes_word items)
    (items_word (after b i right.0) items right.4)
  where
    by : (h m r : Bool) → ((h || m) || r) ≡ true → (h || (m || r)) ≡ true
    by true m r e = refl
    by false m r e = e

-- so it has an address behind the first one
pub words_some : (a : ℕ) (groups : List Group) → list_any makes_word (items_of groups) ≡ true
    → a < address_after a groups
words_some a [] h = absurd (cc)
words_some a (Shared i is ∷ groups) h =
    let more = address_grows (a + size (Shared i is)) groups in omega arith
words_some a (Alone i ∷ groups) h =
    on_test (makes_word i) (λ b. (b || list_any makes_word (items_of groups)) ≡ true
    → a < address_after (a + (if b then 1 else 0)) groups)
    (λ e g. let more = address_grows (a + 1) groups in omega arith)
    (λ e g. let more = words_some (a + 0) groups g in omega arith)
    h

-- and there are some
pub items_some : (items : List an.Item) → Items start (plain items) → 0 < length items
unfolding Items
items_some [] right = absurd (cc)
items_some (i ∷ items) right = omega arith
