-- What has to be kept of the groups: the labels, the next address, the open word, how many items
-- each group has, and where the data begins.
use Rattle.std.proofs.Common.{◌≡◌, ◌∙◌, ◌≤◌, ℕ, ◌+◌, Bool, true, false, List, [], ◌∷◌, ◌++◌, length, map, Some, None, refl, sym, ap, arith}
use Rattle.std.specs.Prelude.{if◌then◌else◌}
use Rattle.std.specs.Option.{unwrap_or}
use Rattle.ga_pack.specs.Model.Layout.{Labels, Group, Shared, Alone, address_after, code_end, is_loose, joins, labels_after, labels_behind, literals, op_of, ops_of, size}
use Rattle.ga_pack.specs.Model.LayoutFault.{joins_last, words_added}
use Rattle.ga_pack.specs.Model.Source.{Item, Instruction, Literal, Data}
use Rattle.ga_pack.proofs.OneLayout.{joins_loose}
use Rattle.ga_pack.proofs.Placed.{add, fresh}
use Rattle.ga_asm.proofs.Loose.{loose_data, loose_labels}
use Rattle.ga_asm.specs.Image.{item_count}
use Rattle.ga_asm.specs.inner.Layout.{Open, closed_counts, counts_after, data_after, data_at, is_data, joins_open, labels_with, open_after, open_at, open_count}
use Rattle.ga_pack.proofs.ByCases.{on_test}

-- ---- what joins

pub joins_is : (l : Labels) (a : ℕ) (gs : List Group) (x : Item)
    → joins_last l a gs x ≡ joins_open (labels_after l a gs) (open_at a gs) x
joins_is l a [] x = refl
joins_is l a (Shared i is ∷ []) x = refl
joins_is l a (Alone i ∷ []) x = refl
joins_is l a (g ∷ h ∷ gs) x = joins_is (labels_behind l a g) (a + size g) (h ∷ gs) x

literals_snoc : (is : List Item) (x : Item)
    → length (literals (is ++ x ∷ [])) ≡ length (literals is) + length (literals (x ∷ []))
literals_snoc [] x = omega arith
literals_snoc (Literal n ∷ is) x = let e = literals_snoc is x in omega arith
literals_snoc (i ∷ is) x = literals_snoc is x

pub ops_snoc : (is : List Item) (x : Item) → ops_of (is ++ x ∷ []) ≡ ops_of is ++ op_of x ∷ []
ops_snoc [] x = refl
ops_snoc (i ∷ is) x = ap (λ r. op_of i ∷ r) (ops_snoc is x)

pub ops_length : (is : List Item) → length (ops_of is) ≡ length is
ops_length [] = refl
ops_length (i ∷ is) = let e = ops_length is in omega arith

-- ---- the next address

fresh_size : (x : Item) → size (fresh x) ≡ words_added false x
fresh_size (Instruction o) = refl
fresh_size _ = refl

pub address_add : (l : Labels) (a : ℕ) (gs : List Group) (x : Item)
    → address_after a (add l a gs x) ≡ address_after a gs + words_added (joins_last l a gs x) x
address_add l a [] x = ap (λ n. a + n) (fresh_size x)
address_add l a (Shared i is ∷ []) x =
    on_test (joins l a (ops_of (i ∷ is)) x)
    (λ b. address_after a (if b then Shared i (is ++ x ∷ []) ∷ [] else Shared i is ∷ fresh x ∷ [])
    ≡ a + size (Shared i is) + words_added b x)
    (λ e. let f : length (literals ((i ∷ is) ++ x ∷ [])) ≡ length (literals (i ∷ is))
    + length (literals (x ∷ [])) = literals_snoc (i ∷ is) x in omega arith)
    (λ e. ap (λ n. a + size (Shared i is) + n) (fresh_size x))
address_add l a (Alone i ∷ []) x = ap (λ n. a + size (Alone i) + n) (fresh_size x)
address_add l a (g ∷ h ∷ gs) x = address_add (labels_behind l a g) (a + size g) (h ∷ gs) x

-- ---- the open word

fresh_open : (a : ℕ) (x : Item) → open_at a (fresh x ∷ []) ≡ open_after false None a x
fresh_open a x =
    on_test (is_loose x) (λ b. open_at a ((if b then Shared x [] else Alone x) ∷ [])
    ≡ (if b then Some (a, op_of x ∷ []) else None)) (λ e. refl) (λ e. refl)

-- what is asked of the last of two groups or more
module _ {R : Type 0} (P : ℕ → List Group → R) (Q : Group → R → R) (skips : (a : ℕ) (g h : Group)
    (gs : List Group) → P a (g ∷ h ∷ gs) ≡ Q g (P (a + size g) (h ∷ gs))) where
  pub add_skip : (l : Labels) (a b : ℕ) (g h : Group) (gs : List Group) (x : Item)
      → P a (g ∷ add l b (h ∷ gs) x) ≡ Q g (P (a + size g) (add l b (h ∷ gs) x))
  add_skip l a b g (Shared i is) [] x =
      on_test (joins l b (ops_of (i ∷ is)) x)
      (λ t. P a (g ∷ (if t then Shared i (is ++ x ∷ []) ∷ [] else Shared i is ∷ fresh x ∷ [])) ≡ Q g
      (P (a + size g) (if t then Shared i (is ++ x ∷ []) ∷ [] else Shared i is ∷ fresh x ∷ [])))
      (λ e. skips a g (Shared i (is ++ x ∷ [])) []) (λ e. skips a g (Shared i is) (fresh x ∷ []))
  add_skip l a b g (Alone i) [] x = skips a g (Alone i) (fresh x ∷ [])
  add_skip l a b g next (h ∷ gs) x =
      skips a g next (add (labels_behind l b next) (b + size next) (h ∷ gs) x)

open_skips : (a : ℕ) (g h : Group) (gs : List Group)
    → open_at a (g ∷ h ∷ gs) ≡ open_at (a + size g) (h ∷ gs)
open_skips a (Shared i is) h gs = refl
open_skips a (Alone i) h gs = refl

pub open_add : (l : Labels) (a : ℕ) (gs : List Group) (x : Item) → open_at a (add l a gs x)
    ≡ open_after (joins_last l a gs x) (open_at a gs) (address_after a gs) x
open_add l a [] x = fresh_open a x
open_add l a (Shared i is ∷ []) x =
    on_test (joins l a (ops_of (i ∷ is)) x)
    (λ b. open_at a (if b then Shared i (is ++ x ∷ []) ∷ [] else Shared i is ∷ fresh x ∷ [])
    ≡ open_after b (Some (a, ops_of (i ∷ is))) (a + size (Shared i is)) x)
    (λ e. ap (λ r. Some (a, op_of i ∷ r)) (ops_snoc is x))
    (λ e. fresh_open (a + size (Shared i is)) x)
open_add l a (Alone i ∷ []) x = fresh_open (a + size (Alone i)) x
open_add l a (g ∷ h ∷ gs) x =
    add_skip open_at (λ g r. r) open_skips (labels_behind l a g) a (a + size g) g h gs x
    ∙ open_add (labels_behind l a g) (a + size g) (h ∷ gs) x

-- ---- the labels

fresh_labels : (l : Labels) (a : ℕ) (x : Item) → labels_behind l a (fresh x) ≡ labels_with l a x
fresh_labels l a (Instruction o) = refl
fresh_labels l a _ = refl

pub labels_add : (l : Labels) (a : ℕ) (gs : List Group) (x : Item)
    → labels_after l a (add l a gs x) ≡ labels_with (labels_after l a gs) (address_after a gs) x
labels_add l a [] x = fresh_labels l a x
labels_add l a (Shared i is ∷ []) x =
    on_test (joins l a (ops_of (i ∷ is)) x)
    (λ b. joins l a (ops_of (i ∷ is)) x ≡ b → labels_after l a (if b then Shared i (is ++ x ∷ [])
    ∷ [] else Shared i is ∷ fresh x ∷ []) ≡ labels_with l (a + size (Shared i is)) x)
    (λ e f. sym (loose_labels l (a + size (Shared i is)) x (joins_loose l a (ops_of (i ∷ is)) x f)))
    (λ e f. fresh_labels l (a + size (Shared i is)) x) refl
labels_add l a (Alone i ∷ []) x = fresh_labels (labels_behind l a (Alone i)) (a + size (Alone i)) x
labels_add l a (g ∷ h ∷ gs) x = labels_add (labels_behind l a g) (a + size g) (h ∷ gs) x

-- ---- how many items each group has

fresh_counts : (x : Item) → closed_counts (fresh x ∷ []) ≡ (if is_loose x then [] else 1 ∷ [])
fresh_counts x =
    on_test (is_loose x) (λ b. closed_counts ((if b then Shared x [] else Alone x) ∷ [])
    ≡ (if b then [] else 1 ∷ [])) (λ e. refl) (λ e. refl)

counts_skips : (a : ℕ) (g h : Group) (gs : List Group)
    → closed_counts (g ∷ h ∷ gs) ≡ item_count g ∷ closed_counts (h ∷ gs)
counts_skips a (Shared i is) h gs = refl
counts_skips a (Alone i) h gs = refl

counts_cons : (b : Bool) (w : Open) (n : ℕ) (ns : List ℕ) (x : Item)
    → n ∷ counts_after b w ns x ≡ counts_after b w (n ∷ ns) x
counts_cons true w n ns x = refl
counts_cons false w n ns x = refl

pub counts_add : (l : Labels) (a : ℕ) (gs : List Group) (x : Item) → closed_counts (add l a gs x)
    ≡ counts_after (joins_last l a gs x) (open_at a gs) (closed_counts gs) x
counts_add l a [] x = fresh_counts x
counts_add l a (Shared i is ∷ []) x =
    on_test (joins l a (ops_of (i ∷ is)) x)
    (λ b. closed_counts (if b then Shared i (is ++ x ∷ []) ∷ [] else Shared i is ∷ fresh x ∷ [])
    ≡ counts_after b (Some (a, ops_of (i ∷ is))) [] x)
    (λ e. refl)
    (λ e. counts_skips a (Shared i is) (fresh x) [] ∙ ap (λ n. n ∷ closed_counts (fresh x ∷ []))
    (sym (ops_length (i ∷ is))) ∙ ap (λ r. length (ops_of (i ∷ is)) ∷ r) (fresh_counts x))
counts_add l a (Alone i ∷ []) x = ap (λ r. 1 ∷ r) (fresh_counts x)
counts_add l a (g ∷ h ∷ gs) x =
    add_skip (λ n. closed_counts) (λ g r. item_count g ∷ r) counts_skips (labels_behind l a g) a
    (a + size g) g h gs x
    ∙ ap (λ r. item_count g ∷ r) (counts_add (labels_behind l a g) (a + size g) (h ∷ gs) x)
    ∙ counts_cons (joins_last (labels_behind l a g) (a + size g) (h ∷ gs) x)
    (open_at (a + size g) (h ∷ gs)) (item_count g) (closed_counts (h ∷ gs)) x

-- if the open word is closed, each group is counted
pub counts_closed : (a : ℕ) (gs : List Group)
    → closed_counts gs ++ open_count (open_at a gs) ≡ map item_count gs
counts_closed a [] = refl
counts_closed a (Shared i is ∷ []) = ap (λ n. n ∷ []) (ops_length (i ∷ is))
counts_closed a (Alone i ∷ []) = refl
counts_closed a (g ∷ h ∷ gs) = ap (λ r. item_count g ∷ r) (counts_closed (a + size g) (h ∷ gs))

-- ---- where the data begins

fresh_data : (a : ℕ) (x : Item) → data_at a (fresh x ∷ []) ≡ (if is_data x then Some a else None)
fresh_data a (Instruction o) = refl
fresh_data a _ = refl

pub data_add : (l : Labels) (a : ℕ) (gs : List Group) (x : Item)
    → data_at a (add l a gs x) ≡ data_after (data_at a gs) (address_after a gs) x
data_add l a [] x = fresh_data a x
data_add l a (Shared i is ∷ []) x =
    on_test (joins l a (ops_of (i ∷ is)) x)
    (λ b. joins l a (ops_of (i ∷ is)) x ≡ b → data_at a (if b then Shared i (is ++ x ∷ []) ∷ []
    else Shared i is ∷ fresh x ∷ []) ≡ data_after None (a + size (Shared i is)) x)
    (λ e f. sym (loose_data None (a + size (Shared i is)) x
    (joins_loose l a (ops_of (i ∷ is)) x f))) (λ e f. fresh_data (a + size (Shared i is)) x) refl
data_add l a (Alone i ∷ []) x =
    on_test (is_data i)
    (λ b. (if b then Some a else data_at (a + size (Alone i)) (fresh x ∷ []))
    ≡ data_after (if b then Some a else None) (a + size (Alone i)) x)
    (λ e. refl) (λ e. fresh_data (a + size (Alone i)) x)
data_add l a (Shared i is ∷ h ∷ gs) x = data_add l (a + size (Shared i is)) (h ∷ gs) x
data_add l a (Alone i ∷ h ∷ gs) x =
    on_test (is_data i)
    (λ b. (if b then Some a else data_at (a + size (Alone i))
    (add (labels_behind l a (Alone i)) (a + size (Alone i)) (h ∷ gs) x))
    ≡ data_after (if b then Some a
    else data_at (a + size (Alone i)) (h ∷ gs)) (address_after (a + size (Alone i)) (h ∷ gs)) x)
    (λ e. refl) (λ e. data_add (labels_behind l a (Alone i)) (a + size (Alone i)) (h ∷ gs) x)

-- the code ends there, or at the end
pub code_is : (a : ℕ) (gs : List Group)
    → code_end a gs ≡ unwrap_or (data_at a gs) (address_after a gs)
code_is a [] = refl
code_is a (Shared i is ∷ gs) = code_is (a + size (Shared i is)) gs
code_is a (Alone Data ∷ gs) = refl
code_is a (Alone i ∷ gs) = code_is (a + size (Alone i)) gs

pub address_grows : (a : ℕ) (gs : List Group) → a ≤ address_after a gs
address_grows a [] = omega arith
address_grows a (g ∷ gs) = let h = address_grows (a + size g) gs in omega arith

pub code_within : (a : ℕ) (gs : List Group) → code_end a gs ≤ address_after a gs
code_within a [] = omega arith
code_within a (Shared i is ∷ gs) = code_within (a + size (Shared i is)) gs
code_within a (Alone Data ∷ gs) = address_grows a (Alone Data ∷ gs)
code_within a (Alone i ∷ gs) = code_within (a + size (Alone i)) gs
