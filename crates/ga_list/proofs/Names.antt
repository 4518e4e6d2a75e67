-- Each word of a node that goes to a name is listed with a label of its address.
use Rattle.std.proofs.Common.{◌≡◌, ◌∙◌, ◌≤◌, ℕ, zero, suc, ◌+◌, ◌-◌, Bool, true, false, List, [], ◌∷◌, ◌++◌, length, Option, Some, None, refl, sym, ap, subst, append_assoc, length-append, eq-eqb, arith}
use Rattle.std.proofs.lemmas.Bool.{and_parts, both_ways, lt-ltb, ltb-true}
use Rattle.std.proofs.lemmas.List.{length-map}
use Rattle.std.proofs.lemmas.List.Folds.{list_all-append}
use Rattle.std.specs.Prelude.{◌==◌, ◌||◌, not, nat_lt, if◌then◌else◌}
use Rattle.std.specs.List.{list_all, list_any, slice_get}
use Rattle.std.specs.Option.{option_map_or, unwrap_or}
use Rattle.std.specs.Str.{bytes_eq}
use Rattle.ga_word.specs.declared.op.Op.{Op}
use Rattle.ga_word.specs.Op.{ends_word}
use Rattle.ga_pack.specs.Followers.{is_followed}
use Rattle.ga_pack.specs.Model.Layout.{Labels, Group, Alone, Shared, Arrangement, address_after, address_of, all_in_reach, dest_in, fits, group_in_reach, is_defined, is_loose, items_of, joins, labels_after, labels_behind, last_dest, literals, may_reach, names_in, op_of, ops_of, p_behind, reaches, size, stand}
use Rattle.ga_pack.specs.Model.Source.{Item, Label, Instruction, Transfer, Literal, Here, WordTo, is_among, is_item}
use Rattle.ga_pack.proofs.OneLayout.{joins_loose}
use Rattle.ga_pack.proofs.ByCases.{on_test}
use Rattle.ga_pack.proofs.ItemParts.{all_parts, transfer_parts, word_to_parts}
use Rattle.ga_disasm.specs.Disassembling.{ItemView, Follower}
use Rattle.ga_disasm.specs.Instructions as named
use Rattle.ga_disasm.specs.Instructions.{group_items, is_behind_data}
use Rattle.ga_asm.specs.Image.{label_at}
use Rattle.ga_list.specs.Laws.{last_name, dest_name}
use Rattle.ga_list.proofs.Targets.{not_followed}

-- ---- labels

-- a label that is found is found among more labels
found_more : (labels more : Labels) (s : List ℕ) (at : ℕ) → address_of labels s ≡ Some at
    → address_of (labels ++ more) s ≡ Some at
found_more [] more s at h = absurd (cc)
found_more (label ∷ labels) more s at h =
    on_test (bytes_eq s label.0)
    (λ b. (if b then Some label.1 else address_of labels s) ≡ Some at
    → (if b then Some label.1 else address_of (labels ++ more) s) ≡ Some at)
    (λ same e. e) (λ other e. found_more labels more s at e) h

pub found_after : (labels : Labels) (address : ℕ) (groups : List Group) (s : List ℕ) (at : ℕ)
    → address_of labels s ≡ Some at → address_of (labels_after labels address groups) s ≡ Some at
found_after labels address [] s at h = h
found_after labels address (Shared i is ∷ groups) s at h =
    found_after labels (address + size (Shared i is)) groups s at h
found_after labels address (Alone (Here t) ∷ groups) s at h =
    found_after (labels ++ (t, address) ∷ []) (address + 0) groups s at
    (found_more labels ((t, address) ∷ []) s at h)
found_after labels address (Alone i ∷ groups) s at h =
    found_after labels (address + size (Alone i)) groups s at h

-- a label that was just defined is found
found_last : (labels : Labels) (t s : List ℕ) (address : ℕ) → bytes_eq s t ≡ true
    → (at : ℕ) × (address_of (labels ++ (t, address) ∷ []) s ≡ Some at)
found_last [] t s address same = (address, ap (λ b. if b then Some address else None) same)
found_last (label ∷ labels) t s address same =
    on_test (bytes_eq s label.0)
    (λ b. (at : ℕ)
    × ((if b then Some label.1 else address_of (labels ++ (t, address) ∷ []) s) ≡ Some at))
    (λ here. (label.1, refl)) (λ other. found_last labels t s address same)

-- items outside brackets define no label
no_names : (i : Item) (is : List Item) → is_loose i ≡ true → names_in (i ∷ is) ≡ names_in is
no_names (Instruction o) is h = refl
no_names (Transfer o v) is h = refl
no_names (Literal n) is h = refl
no_names i is h = absurd (cc)

shared_names : (before : Labels) (address : ℕ) (ops : List Op) (is rest : List Item)
    → stand before address ops is ≡ true → names_in (is ++ rest) ≡ names_in rest
shared_names before address ops [] rest stands = refl
shared_names before address ops (i ∷ is) rest stands =
    let parts =
    and_parts (joins before address ops i) (stand before address (ops ++ op_of i ∷ []) is) stands in
    no_names i (is ++ rest) (joins_loose before address ops i parts.0)
    ∙ shared_names before address (ops ++ op_of i ∷ []) is rest parts.1

-- a name that groups define is a label behind them
pub defined_after : (before : Labels) (address : ℕ) (groups : List Group) (s : List ℕ)
    → Arrangement before address groups → is_among s (names_in (items_of groups)) ≡ true
    → (at : ℕ) × (address_of (labels_after before address groups) s ≡ Some at)
unfolding Arrangement
defined_after before address [] s arranged h = absurd (cc)
defined_after before address (Shared i is ∷ groups) s arranged h =
    defined_after before (address + size (Shared i is)) groups s arranged.2
    (ap (is_among s) (sym (shared_names before address [] (i ∷ is) (items_of groups) arranged.0))
    ∙ h)
defined_after before address (Alone (Here t) ∷ groups) s arranged h =
    let labels = before ++ (t, address) ∷ [] in
    on_test (bytes_eq s t)
    (λ b. (b || is_among s (names_in (items_of groups))) ≡ true
    → (at : ℕ) × (address_of (labels_after labels (address + 0) groups) s ≡ Some at))
    (λ same e.
    let here = found_last before t s address same in
    (here.0, found_after labels (address + 0) groups s here.0 here.1))
    (λ other e. defined_after labels (address + 0) groups s arranged.1 e) h
defined_after before address (Alone i ∷ groups) s arranged h =
    defined_after before (address + size (Alone i)) groups s arranged.1 h

-- an address of a label has a first label
pub label_there : (labels : Labels) (s : List ℕ) (at : ℕ) → address_of labels s ≡ Some at
    → (name : List ℕ) × (label_at labels at ≡ Some name)
label_there [] s at h = absurd (cc)
label_there (label ∷ labels) s at h =
    on_test (label.1 == at)
    (λ b. (name : List ℕ) × ((if b then Some label.0 else label_at labels at) ≡ Some name))
    (λ here. (label.0, refl))
    (λ other.
    on_test (bytes_eq s label.0)
    (λ b. (if b then Some label.1 else address_of labels s) ≡ Some at
    → (name : List ℕ) × (label_at labels at ≡ Some name))
    (λ same e.
    let is : label.1 ≡ at = cc in
    absurd (both_ways (label.1 == at) other (eq-eqb label.1 at is)))
    (λ same e. label_there labels s at e) h)

-- ---- a word that goes to a name

-- A word with these opcodes and this destination goes to a name: the last opcode takes it, and it
-- is in reach.
pub record Goes (names : List (List ℕ)) (labels : Labels) (address : ℕ) (s : List ℕ) (all : List Op)
    (dest : Option ℕ) : Type 0 where
  pub ops : List Op
  pub o : Op
  pub all_are : all ≡ ops ++ o ∷ []
  pub dest_is : dest ≡ Some (dest_in labels (length ops) (Label s))
  pub stays : is_followed o ≡ false
  pub known : is_among s names ≡ true
  pub reach : (at : ℕ) → at ≤ 64 → address_of labels s ≡ Some at
      → reaches (length ops) (p_behind address ops) at ≡ true

-- what is allowed in a slot is in reach, once it is defined
may_then : (before labels : Labels) (slot p : ℕ) (s : List ℕ)
    → ((at : ℕ) → address_of before s ≡ Some at → address_of labels s ≡ Some at)
    → may_reach slot p (address_of before s) ≡ true → (at : ℕ) → at ≤ 64
    → address_of labels s ≡ Some at → reaches slot p at ≡ true
may_then before labels slot p s later may at near there =
    by (address_of before s) (later at) later may
  where
    low : (slot : ℕ) → nat_lt slot 2 ≡ true → reaches slot p at ≡ true
    low zero h = refl
    low (suc zero) h = ap (λ b. b || false) (lt-ltb at 256 (omega arith))
    low (suc (suc slot)) h = absurd (let few = ltb-true (suc (suc slot)) 2 h in omega arith)

    by : (found : Option ℕ) → (found ≡ Some at → address_of labels s ≡ Some at)
        → ((n : ℕ) → found ≡ Some n → address_of labels s ≡ Some n) → may_reach slot p found ≡ true
        → reaches slot p at ≡ true
    by None f g h = low slot h
    by (Some n) f g h =
        let is = g n refl in
        let same : n ≡ at = cc in
        subst (λ t. reaches slot p t ≡ true) same h

last_name-more : (i j : Item) (is : List Item) → last_name (i ∷ j ∷ is) ≡ last_name (j ∷ is)
last_name-more (Transfer o (Label s)) j is = refl
last_name-more (Transfer o v) j is = refl
last_name-more i j is = refl

last_dest-more : (labels : Labels) (slot : ℕ) (i j : Item) (is : List Item)
    → last_dest labels slot (i ∷ j ∷ is) ≡ last_dest labels (suc slot) (j ∷ is)
last_dest-more labels slot (Transfer o v) j is = refl
last_dest-more labels slot i j is = refl

module _ (names : List (List ℕ)) (before labels : Labels) (address : ℕ) (s : List ℕ)
    (later : (at : ℕ) → address_of before s ≡ Some at → address_of labels s ≡ Some at) where
  shared_goes : (ops : List Op) (is : List Item) → list_all is_item is ≡ true
      → list_all (is_defined names) is ≡ true → stand before address ops is ≡ true
      → last_name is ≡ Some s
      → Goes names labels address s (ops ++ ops_of is) (last_dest labels (length ops) is)
  unfolding fits
  shared_goes ops [] right defined stands h = absurd (cc)
  shared_goes ops (Transfer o (Label t) ∷ []) right defined stands h =
      let same : t ≡ s = cc in
      let item = (and_parts (is_item (Transfer o (Label t))) true right).0 in
      let known = (and_parts (is_among t names) true defined).0 in
      let join = (and_parts (joins before address ops (Transfer o (Label t))) true stands).0 in
      let reach = may_reach (length ops) (p_behind address ops) in
      let may = (and_parts (not (list_any ends_word ops)) (reach (address_of before t)) join).1 in
      record {
        ops = ops;
        o = o;
        all_are = refl;
        dest_is = ap (λ t. Some (dest_in labels (length ops) (Label t))) same;
        stays = not_followed o (transfer_parts o (Label t) item).0;
        known = subst (λ t. is_among t names ≡ true) same known;
        reach =
            may_then before labels (length ops) (p_behind address ops) s later
            (ap (λ t. reach (address_of before t)) (sym same) ∙ may);
      }
  shared_goes ops (i ∷ []) right defined stands h = absurd (cc)
  shared_goes ops (i ∷ j ∷ is) right defined stands h =
      let rights = and_parts (is_item i) (list_all is_item (j ∷ is)) right in
      let defineds =
      and_parts (is_defined names i) (list_all (is_defined names) (j ∷ is)) defined in
      let stand_parts =
      and_parts (joins before address ops i)
      (stand before address (ops ++ op_of i ∷ []) (j ∷ is)) stands in
      let more =
      shared_goes (ops ++ op_of i ∷ []) (j ∷ is) rights.1 defineds.1 stand_parts.1
      (sym (last_name-more i j is) ∙ h) in
      let slot_is : length (ops ++ op_of i ∷ []) ≡ suc (length ops) =
      omega (arith, length-append ops (op_of i ∷ [])) in
      record {
        ops = more.ops;
        o = more.o;
        all_are = sym (append_assoc ops (op_of i ∷ []) (ops_of (j ∷ is))) ∙ more.all_are;
        dest_is =
            last_dest-more labels (length ops) i j is
            ∙ ap (λ n. last_dest labels n (j ∷ is)) (sym slot_is) ∙ more.dest_is;
        stays = more.stays;
        known = more.known;
        reach = more.reach;
      }

-- an item is a word that goes to a name
pub record Named (names : List (List ℕ)) (labels : Labels) (address : ℕ) (s : List ℕ)
    (item : Option ItemView) : Type 0 where
  pub all : List Op
  pub dest : Option ℕ
  pub spare : ℕ
  pub goes : Goes names labels address s all dest
  pub item_is : item ≡ Some (named.code all dest spare)

group_named : (names : List (List ℕ)) (before labels : Labels) (address : ℕ) (s : List ℕ)
    (in_data : Bool) (group : Group) (back : List Group)
    → ((at : ℕ) → address_of before s ≡ Some at → address_of labels s ≡ Some at)
    → Arrangement before address (group ∷ back) → group_in_reach labels address group ≡ true
    → list_all is_item (items_of (group ∷ back)) ≡ true
    → list_all (is_defined names) (items_of (group ∷ back)) ≡ true → dest_name group ≡ Some s
    → Named names labels address s (slice_get (named.items_in labels in_data (group ∷ back)) 0)
unfolding Arrangement
group_named names before labels address s in_data
    (Shared i is) back later arranged near right defined h =
    let rights = all_parts (i ∷ is) (items_of back) right in
    let defineds =
    and_parts (list_all (is_defined names) (i ∷ is)) (list_all (is_defined names) (items_of back))
    (sym (list_all-append (is_defined names) (i ∷ is) (items_of back)) ∙ defined) in
    record {
      all = ops_of (i ∷ is);
      dest = last_dest labels 0 (i ∷ is);
      spare = 0;
      goes =
          shared_goes names before labels address s later [] (i ∷ is)
          rights.0 defineds.0 arranged.0 h;
      item_is = refl;
    }
group_named names before labels address s in_data
    (Alone (WordTo ops o (Label t) spare)) back later arranged near right defined h =
    let same : t ≡ s = cc in
    let own = is_item (WordTo ops o (Label t) spare) in
    let item = (and_parts own (list_all is_item (items_of back)) right).0 in
    let known =
    (and_parts (is_among t names) (list_all (is_defined names) (items_of back)) defined).0 in
    record {
      all = ops ++ o ∷ [];
      dest = Some (dest_in labels (length ops) (Label t));
      spare = unwrap_or spare 0;
      goes = record {
        ops = ops;
        o = o;
        all_are = refl;
        dest_is = ap (λ t. Some (dest_in labels (length ops) (Label t))) same;
        stays = not_followed o (word_to_parts ops o (Label t) spare item).dest;
        known = subst (λ t. is_among t names ≡ true) same known;
        reach =
            λ at few there.
            let found : address_of labels t ≡ Some at = ap (address_of labels) same ∙ there in
            let reach : Option ℕ → Bool =
            λ at. option_map_or (reaches (length ops) (p_behind address ops)) at true in
            sym (ap reach found) ∙ near;
      };
      item_is = refl;
    }
group_named names before labels address s in_data
    (Alone i) back later arranged near right defined h =
    absurd (cc)

-- ---- the words of a node

grows : (address : ℕ) (groups : List Group) → address ≤ address_after address groups
grows address [] = omega arith
grows address (group ∷ groups) = let more = grows (address + size group) groups in omega arith

pub labels_append : (labels : Labels) (address : ℕ) (front back : List Group)
    → labels_after labels address (front ++ back)
    ≡ labels_after (labels_after labels address front) (address_after address front) back
labels_append labels address [] back = refl
labels_append labels address (group ∷ front) back =
    labels_append (labels_behind labels address group) (address + size group) front back

-- a group has as many items as words
group_size : (before labels : Labels) (address : ℕ) (in_data : Bool) (group : Group)
    (back : List Group) → Arrangement before address (group ∷ back)
    → length (group_items labels in_data group) ≡ size group
unfolding Arrangement
group_size before labels address in_data (Shared i is) back arranged =
    let e = length-map (literals (i ∷ is)) Follower in omega arith
group_size before labels address in_data (Alone (Instruction o)) back arranged =
    absurd (let alone = arranged.0 in cc)
group_size before labels address in_data (Alone (Transfer o v)) back arranged =
    absurd (let alone = arranged.0 in cc)
group_size before labels address in_data (Alone (Literal n)) back arranged =
    absurd (let alone = arranged.0 in cc)
group_size before labels address in_data (Alone i) back arranged = refl

behind_group : (before : Labels) (address : ℕ) (group : Group) (back : List Group)
    → Arrangement before address (group ∷ back)
    → Arrangement (labels_behind before address group) (address + size group) back
unfolding Arrangement
behind_group before address (Shared i is) back arranged = arranged.2
behind_group before address (Alone i) back arranged = arranged.1

-- if all items have a property, so have those behind a group
all_behind : (p : Item → Bool) (group : Group) (back : List Group)
    → list_all p (items_of (group ∷ back)) ≡ true → list_all p (items_of back) ≡ true
all_behind p (Shared i is) back h =
    (and_parts (list_all p (i ∷ is)) (list_all p (items_of back))
    (sym (list_all-append p (i ∷ is) (items_of back)) ∙ h)).1
all_behind p (Alone i) back h = (and_parts (p i) (list_all p (items_of back)) h).1

past : {A : Type 0} (xs ys : List A) (n : ℕ) → slice_get (xs ++ ys) (length xs + n) ≡ slice_get ys n
past [] ys n = let e : 0 + n ≡ n = omega arith in ap (slice_get ys) e
past (x ∷ xs) ys n =
    let e : length (x ∷ xs) + n ≡ suc (length xs + n) = omega arith in
    ap (slice_get (x ∷ (xs ++ ys))) e ∙ past xs ys n

module _ (names : List (List ℕ)) (labels : Labels) (s : List ℕ) (group : Group)
    (back : List Group) where
  pub named_at : (before : Labels) (address : ℕ) (in_data : Bool) (front : List Group) (n : ℕ)
      → address + n ≡ address_after address front
      → ((at : ℕ) → address_of (labels_after before address front) s ≡ Some at
      → address_of labels s ≡ Some at)
      → Arrangement before address (front ++ group ∷ back)
      → all_in_reach labels address (front ++ group ∷ back) ≡ true
      → list_all is_item (items_of (front ++ group ∷ back)) ≡ true
      → list_all (is_defined names) (items_of (front ++ group ∷ back)) ≡ true
      → dest_name group ≡ Some s
      → Named names labels (address_after address front) s
      (slice_get (named.items_in labels in_data (front ++ group ∷ back)) n)
  named_at before address in_data [] n at later arranged near right defined h =
      let none : 0 ≡ n = omega arith in
      let items = named.items_in labels in_data (group ∷ back) in
      subst (λ n. Named names labels address s (slice_get items n)) none
      (group_named names before labels address s in_data group back later arranged
      (and_parts (group_in_reach labels address group)
      (all_in_reach labels (address + size group) back) near).0 right defined h)
  named_at before address in_data (g ∷ front) n at later arranged near right defined h =
      let rest = front ++ group ∷ back in
      let m = n - size g in
      let far = grows (address + size g) front in
      let own = group_items labels in_data g in
      let count = group_size before labels address in_data g rest arranged in
      let n_is : n ≡ length own + m = omega arith in
      let more =
      named_at (labels_behind before address g) (address + size g)
      (is_behind_data in_data g) front m (omega arith) later
      (behind_group before address g rest arranged)
      (and_parts (group_in_reach labels address g)
      (all_in_reach labels (address + size g) rest) near).1
      (all_behind is_item g rest right) (all_behind (is_defined names) g rest defined) h in
      subst (Named names labels (address_after (address + size g) front) s)
      (sym (ap (slice_get (named.items_in labels in_data (g ∷ rest))) n_is
      ∙ past own (named.items_in labels (is_behind_data in_data g) rest) m)) more
