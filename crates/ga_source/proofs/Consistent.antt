-- The machine keeps its labels those of its items, and its node apart from those that are done.
use Rattle.std.proofs.Common.{◌≡◌, ℕ, zero, suc, Bool, true, false, List, [], ◌∷◌, ◌++◌, length, Option, Some, None, Result, Ok, Err, refl, sym, ap, ◌∙◌}
use Rattle.std.specs.Prelude.{◌==◌, nat_lt, if◌then◌else◌}
use Rattle.ga_word.specs.declared.op.Op.{Op}
use Rattle.ga_word.specs.Op.{takes_dest}
use Rattle.ga_pack.specs.Followers.{is_followed}
use Rattle.ga_pack.specs.Model.Layout.{names_in}
use Rattle.ga_pack.specs.Model.Token.{Token, op, number, name, label, node, node_name, align, data_part, open_mark, close_mark, comma, slash, bad, end, is_reserved}
use Rattle.ga_pack.specs.Model.Source.{Number, Label, Item, Instruction, Transfer, Literal, Here, Align, Word, WordTo, Plain, Data, Section, Part, Code, Behind, start, part_after, is_among, is_named, labels_with}
use Rattle.ga_pack.specs.Slots.{dest_bound, op_fits, spare_bound}
use Rattle.ga_source.specs.inner.Machine.{State, Inside, IsConsistent, between, behind_op, behind_comma, in_word, behind_dest_op, behind_dest, behind_slash, behind_spare, nothing, naming, inside, take, take_first, take_between, item_added}
use Rattle.ga_pack.proofs.ByCases.{on_test}
use Rattle.ga_pack.specs.declared.error_kind.SourceErrorKind.{SourceErrorKind}
use Rattle.ga_pack.specs.declared.error_kind.SourceErrorKind.TheVariants.{BadToken, DuplicateNode}

-- the answer to a token keeps it
abbrev pub ConsistentBy : Result State SourceErrorKind → Type 0
ConsistentBy (Ok s) = IsConsistent s
ConsistentBy (Err k) = Unit {0}

by_if : (b : Bool) (x y : Result State SourceErrorKind) → ConsistentBy x → ConsistentBy y
    → ConsistentBy (if b then x else y)
by_if true x y k l = k
by_if false x y k l = l

-- ---- one more item

name_past : (s : List ℕ) (i : Item) (labels : List (List ℕ))
    → s ∷ labels_with i labels ≡ labels_with i (s ∷ labels)
name_past s (Here t) labels = refl
name_past s i labels = refl

names_snoc : (is : List Item) (i : Item) → names_in (is ++ i ∷ []) ≡ labels_with i (names_in is)
names_snoc [] (Here s) = refl
names_snoc [] i = refl
names_snoc (Here s ∷ is) i =
    ap (λ labels. s ∷ labels) (names_snoc is i) ∙ name_past s i (names_in is)
names_snoc (x ∷ is) i = names_snoc is i

abbrev Open : Inside → Type 0
Open c = (is_named c.name c.seen ≡ false) × (c.before.labels ≡ names_in c.items)

pushed : (c : Inside) (i : Item) (p : Part) → Open c → IsConsistent (item_added c i p)
pushed c i p o = (o.0, ap (labels_with i) o.1 ∙ sym (names_snoc c.items i))

by_part : (c : Inside) (i : Item) (o : Option Part) → Open c
    → ConsistentBy (elim o [ None ↦ Err BadToken | Some p ↦ Ok (item_added c i p) ])
by_part c i None k = tt
by_part c i (Some p) k = pushed c i p k

-- ---- each state

first_consistent : (part : Part) (c : Inside) (t : Token) → Open c
    → ConsistentBy (take_first part c t)
first_consistent Behind c comma o = o
first_consistent (Code (suc n)) c comma o = o
first_consistent (Code (suc n)) c data_part o = pushed c Data Behind o
first_consistent (Code zero) c (op x) o =
    by_if (takes_dest x) _ _ o (by_if (is_followed x) _ _ tt (pushed c (Instruction x) (Code 0) o))
first_consistent (Code zero) c (number m) o = pushed c (Literal m) (Code 0) o
first_consistent (Code zero) c align o = pushed c Align (Code 0) o
first_consistent (Code zero) c data_part o = pushed c Data Behind o
first_consistent (Code zero) c open_mark o = o
first_consistent _ c _ o = tt

between_consistent : (c : Inside) (t : Token) → Open c → ConsistentBy (take_between c t)
between_consistent c (bad k) o = tt
between_consistent c end o = by_if c.before.has_word _ _ tt tt
between_consistent c node o = by_if c.before.has_word _ _ tt tt
between_consistent c (label s) o =
    by_if (is_reserved s) _ _ tt
    (by_if (is_among s c.before.labels) _ _ tt (pushed c (Here s) c.before.part o))
between_consistent c t o = first_consistent c.before.part c t o

naming_consistent : (done : List Section) (seen : List ℕ) (t : Token)
    → ConsistentBy (take (naming done seen) t)
naming_consistent done seen (node_name m) =
    on_test (is_named m seen) (λ b. ConsistentBy (if b then Err DuplicateNode else Ok
    (inside (record { done = done; seen = seen; name = m; items = []; before = start }) between)))
    (λ twice. tt) (λ new. (new, refl))
naming_consistent done seen t = tt

dest_consistent : (c : Inside) (o : Op) (t : Token) → Open c
    → ConsistentBy (take (inside c (behind_op o)) t)
dest_consistent c o (number m) k =
    by_if (nat_lt m (dest_bound 0)) _ _ (pushed c (Transfer o (Number m)) (Code 0) k) tt
dest_consistent c o (name s) k = pushed c (Transfer o (Label s)) (Code 0) k
dest_consistent c o t k = tt

plain_consistent : (c : Inside) (t : Token) → Open c → ConsistentBy (take (inside c behind_comma) t)
plain_consistent c (number m) k =
    by_part c (Plain (Number m)) (part_after c.before.part (Plain (Number m))) k
plain_consistent c (name s) k =
    by_part c (Plain (Label s)) (part_after c.before.part (Plain (Label s))) k
plain_consistent c t k = tt

word_consistent : (c : Inside) (ops : List Op) (t : Token) → Open c
    → ConsistentBy (take (inside c (in_word ops)) t)
word_consistent c ops (op o) k =
    by_if (takes_dest o) _ _ (by_if (nat_lt (length ops) 3) _ _ k tt)
    (by_if (op_fits (length ops) o) _ _ k tt)
word_consistent c ops close_mark k =
    by_if (nat_lt 0 (length ops)) _ _
    (by_part c (Word ops) (part_after c.before.part (Word ops)) k) tt
word_consistent c ops t k = tt

pub take_consistent : (s : State) (t : Token) → IsConsistent s → ConsistentBy (take s t)
take_consistent nothing node h = tt
take_consistent (naming done seen) t h = naming_consistent done seen t
take_consistent (inside c between) t h = between_consistent c t h
take_consistent (inside c (behind_op o)) t h = dest_consistent c o t h
take_consistent (inside c behind_comma) t h = plain_consistent c t h
take_consistent (inside c (in_word ops)) t h = word_consistent c ops t h
take_consistent (inside c (behind_dest_op ops o)) (number m) h =
    by_if (nat_lt m (dest_bound (length ops))) _ _ h tt
take_consistent (inside c (behind_dest_op ops o)) (name s) h = h
take_consistent (inside c (behind_dest ops o v)) slash h = by_if (length ops == 0) _ _ h tt
take_consistent (inside c (behind_dest ops o v)) close_mark h =
    by_part c (WordTo ops o v None) (part_after c.before.part (WordTo ops o v None)) h
take_consistent (inside c (behind_slash ops o v)) (number m) h =
    by_if (nat_lt m (spare_bound 0)) _ _ h tt
take_consistent (inside c (behind_spare ops o v k)) close_mark h =
    by_part c (WordTo ops o v (Some k)) (part_after c.before.part (WordTo ops o v (Some k))) h
take_consistent _ _ h = tt
