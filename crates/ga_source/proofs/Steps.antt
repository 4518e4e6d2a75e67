-- Each token that the parser takes keeps what completes its state, and each that it refuses
-- completes nothing.
use Rattle.std.proofs.Common.{◌≡◌, ◌⊎◌, inl, inr, ⊎_elim, ℕ, zero, suc, ◌+◌, Bool, true, false, List, [], ◌∷◌, ◌++◌, length, Option, Some, None, Result, Ok, Err, refl, sym, ap, ◌∙◌, subst, append_assoc, append-nil, arith}
use Rattle.std.proofs.lemmas.Bool.{and_parts, and_from, both_ways, not-true, not_from_false}
use Rattle.std.specs.Prelude.{◌==◌, ◌&&◌, not, nat_lt, if◌then◌else◌}
use Rattle.ga_word.specs.declared.op.Op.{Op}
use Rattle.ga_word.specs.Op.{takes_dest}
use Rattle.ga_pack.specs.Followers.{followers, is_followed}
use Rattle.ga_pack.specs.Model.Token.{Token, op, number, name, label, node, node_name, align, data_part, open_mark, close_mark, comma, slash, bad, end, is_reserved}
use Rattle.ga_pack.specs.Model.Source.{Value, Number, Label, Item, Instruction, Transfer, Literal, Here, Align, Word, WordTo, Plain, Data, Section, Part, Code, Behind, start, part_after, is_item, is_new, Sections, Source, text_tokens, items_tokens, op_tokens, value_token, spare_tokens, stand_from, is_below, is_spare, is_among, is_named}
use Rattle.ga_pack.specs.Slots.{dest_bound, op_fits, spare_bound}
use Rattle.ga_pack.proofs.ByCases.{on_test}
use Rattle.ga_pack.proofs.ItemParts.{IsWordTo, instruction_parts, stand_parts, transfer_parts, word_parts, word_to_parts}
use Rattle.ga_source.specs.inner.Machine.{between, behind_op, behind_comma, in_word, behind_dest_op, behind_dest, behind_slash, behind_spare, Inside, State, nothing, naming, inside, finished, sections_closed, item_added, take, take_between, take_first, take_op, take_label, take_slot, with_part, Good}
use Rattle.ga_source.proofs.Completes.{Follows, Adds, Completes, Leads, led, led_back, with_item}
use Rattle.ga_pack.specs.declared.error_kind.SourceErrorKind.{SourceErrorKind}
use Rattle.ga_pack.specs.declared.error_kind.SourceErrorKind.TheVariants.{BadToken, NumberRange, DuplicateNode, DuplicateLabel, ReservedLabel, BadWord, Empty}

-- the answer to a token is right
abbrev pub Right : State → Token → Result State SourceErrorKind → Type 0
Right s t (Ok s') =
    Good s'
    × ((rest : List Token) (p : List Section) → Completes s (t ∷ rest) p → Completes s' rest p)
    × ((rest : List Token) (p : List Section) → Completes s' rest p → Completes s (t ∷ rest) p)
Right s t (Err k) = (rest : List Token) (p : List Section) → Completes s (t ∷ rest) p → ⊥

abbrev is_value : Token → Bool
is_value (number n) = true
is_value (name s) = true
is_value _ = false

no_value : (t : Token) (v : Value) (rest more : List Token) → is_value t ≡ false
    → t ∷ rest ≡ value_token v ∷ more → ⊥
no_value t (Number n) rest more n' e = let f : t ≡ number n = cc in absurd (cc (ap is_value f))
no_value t (Label n) rest more n' e = let f : t ≡ name n = cc in absurd (cc (ap is_value f))

is_number : (n : ℕ) (v : Value) (rest more : List Token) → number n ∷ rest ≡ value_token v ∷ more
    → (v ≡ Number n) × (more ≡ rest)
is_number n (Number m) rest more e = ((cc), (cc))
is_number n (Label s) rest more e = absurd (cc)

is_label : (s : List ℕ) (v : Value) (rest more : List Token) → name s ∷ rest ≡ value_token v ∷ more
    → (v ≡ Label s) × (more ≡ rest)
is_label s (Number m) rest more e = absurd (cc)
is_label s (Label t) rest more e = ((cc), (cc))

-- an item is whole
fixed : (c : Inside) (i : Item) (q : Part) (ts : List Token) (p : List Section)
    → part_after c.before.part i ≡ Some q → Adds c i ts p → Follows (with_item c i q) ts p
fixed c i q ts p e a =
    let same : a.0 ≡ q = cc in subst (λ x. Follows (with_item c i x) ts p) same a.4

whole : (c : Inside) (s : State) (t : Token) (i : Item) (q : Part)
    → part_after c.before.part i ≡ Some q → is_item i ≡ true → is_new i c.before.labels ≡ true
    → ((rest : List Token) (p : List Section) → Completes s (t ∷ rest) p → Adds c i rest p)
    → ((rest : List Token) (p : List Section) → Adds c i rest p → Completes s (t ∷ rest) p)
    → Right s t (Ok (item_added c i q))
whole c s t i q e a b to from =
    (tt, λ rest p h. fixed c i q rest p e (to rest p h), λ rest p h. from rest p (q, a, b, e, h))

whole_part : (c : Inside) (s : State) (t : Token) (i : Item) (q : Part)
    → part_after c.before.part i ≡ Some q → is_item i ≡ true → is_new i c.before.labels ≡ true
    → ((rest : List Token) (p : List Section) → Completes s (t ∷ rest) p → Adds c i rest p)
    → ((rest : List Token) (p : List Section) → Adds c i rest p → Completes s (t ∷ rest) p)
    → Right s t (with_part c i)
whole_part c s t i q e a b to from =
    subst (λ x. Right s t (elim x [ None ↦ Err BadToken | Some r ↦ Ok (item_added c i r) ])) (sym e)
    (whole c s t i q e a b to from)

carry : (c : Inside) (i j : Item) (ts us : List Token) (p : List Section) → i ≡ j → ts ≡ us
    → Adds c i ts p → Adds c j us p
carry c i j ts us p e f a = subst (λ x. Adds c x us p) e (subst (λ x. Adds c i x p) f a)

-- ---- behind an opcode with a destination, outside brackets

transfer_number : (c : Inside) (o : Op) (n : ℕ) (rest : List Token) (p : List Section)
    → Completes (inside c (behind_op o)) (number n ∷ rest) p → Adds c (Transfer o (Number n)) rest p
transfer_number c o n rest p (i, more, (v, e, f), a) =
    let h = is_number n v rest more e in let h0 = h.0 in
    carry c i (Transfer o (Number n)) more rest p (cc) h.1 a

transfer_name : (c : Inside) (o : Op) (n : List ℕ) (rest : List Token) (p : List Section)
    → Completes (inside c (behind_op o)) (name n ∷ rest) p → Adds c (Transfer o (Label n)) rest p
transfer_name c o n rest p (i, more, (v, e, f), a) =
    let h = is_label n v rest more e in let h0 = h.0 in
    carry c i (Transfer o (Label n)) more rest p (cc) h.1 a

behind_op_right : (c : Inside) (o : Op) (t : Token) → Good (inside c (behind_op o))
    → Right (inside c (behind_op o)) t (take (inside c (behind_op o)) t)
unfolding is_item part_after
behind_op_right c o (number n) g =
    on_test (nat_lt n (dest_bound 0)) (λ b. Right (inside c (behind_op o)) (number n)
    (if b then Ok (item_added c (Transfer o (Number n)) (Code 0)) else Err NumberRange))
    (λ small. whole c (inside c (behind_op o)) (number n) (Transfer o (Number n)) (Code 0)
    (ap (λ x. part_after x (Transfer o (Number n))) g.1)
    (and_from (takes_dest o) (nat_lt n (dest_bound 0)) g.0 small) refl (transfer_number c o n)
    (λ rest p a. (Transfer o (Number n), rest, (Number n, refl, refl), a)))
    (λ large rest p h. both_ways (nat_lt n (dest_bound 0)) large
    (and_parts (takes_dest o) (nat_lt n (dest_bound 0)) (transfer_number c o n rest p h).1).1)
behind_op_right c o (name s) g =
    whole c (inside c (behind_op o)) (name s) (Transfer o (Label s)) (Code 0)
    (ap (λ x. part_after x (Transfer o (Label s))) g.1) (and_from (takes_dest o) true g.0 refl) refl
    (transfer_name c o s) (λ rest p a. (Transfer o (Label s), rest, (Label s, refl, refl), a))
behind_op_right c o t g = λ rest p (i, more, (v, e, f), a). no_value t v rest more refl e

-- ---- behind a comma

plain_number : (c : Inside) (n : ℕ) (rest : List Token) (p : List Section)
    → Completes (inside c behind_comma) (number n ∷ rest) p → Adds c (Plain (Number n)) rest p
plain_number c n rest p (i, more, (v, e, f), a) =
    let h = is_number n v rest more e in let h0 = h.0 in
    carry c i (Plain (Number n)) more rest p (cc) h.1 a

plain_name : (c : Inside) (n : List ℕ) (rest : List Token) (p : List Section)
    → Completes (inside c behind_comma) (name n ∷ rest) p → Adds c (Plain (Label n)) rest p
plain_name c n rest p (i, more, (v, e, f), a) =
    let h = is_label n v rest more e in let h0 = h.0 in
    carry c i (Plain (Label n)) more rest p (cc) h.1 a

behind_comma_right : (c : Inside) (t : Token) → Good (inside c behind_comma)
    → Right (inside c behind_comma) t (take (inside c behind_comma) t)
unfolding is_item
behind_comma_right c (number n) g =
    whole_part c (inside c behind_comma) (number n) (Plain (Number n)) g.0 (g.1 (Number n)) refl
    refl (plain_number c n) (λ rest p a. (Plain (Number n), rest, (Number n, refl, refl), a))
behind_comma_right c (name s) g =
    whole_part c (inside c behind_comma) (name s) (Plain (Label s)) g.0 (g.1 (Label s)) refl refl
    (plain_name c s) (λ rest p a. (Plain (Label s), rest, (Label s, refl, refl), a))
behind_comma_right c t g = λ rest p (i, more, (v, e, f), a). no_value t v rest more refl e

-- ---- in brackets

stand_made : (slot : ℕ) (o : Op) (ops : List Op) → takes_dest o ≡ false → op_fits slot o ≡ true
    → stand_from (suc slot) ops ≡ true → stand_from slot (o ∷ ops) ≡ true
stand_made slot o ops n r h =
    and_from (not (takes_dest o) && op_fits slot o) (stand_from (suc slot) ops)
    (and_from (not (takes_dest o)) (op_fits slot o) (not_from_false (takes_dest o) n) r) h

stand_mid : (slot : ℕ) (ops : List Op) (o : Op) (later : List Op)
    → stand_from slot (ops ++ o ∷ later) ≡ true
    → (takes_dest o ≡ false) × (op_fits (length ops + slot) o ≡ true)
stand_mid slot [] o later h =
    let a = stand_parts slot o later h in
    let e : 0 + slot ≡ slot = omega arith in
    (a.0, subst (λ n. op_fits n o ≡ true) (sym e) a.1)
stand_mid slot (x ∷ ops) o later h =
    let e : length ops + suc slot ≡ suc (length ops) + slot = omega arith in
    let ih = stand_mid (suc slot) ops o later (stand_parts slot x (ops ++ o ∷ later) h).2 in
    (ih.0, subst (λ n. op_fits n o ≡ true) e ih.1)

stand_end : (slot : ℕ) (ops : List Op) (o : Op) → stand_from slot ops ≡ true → takes_dest o ≡ false
    → op_fits (length ops + slot) o ≡ true → stand_from slot (ops ++ o ∷ []) ≡ true
stand_end slot [] o h n r =
    let e : 0 + slot ≡ slot = omega arith in
    stand_made slot o [] n (subst (λ n. op_fits n o ≡ true) e r) refl
stand_end slot (x ∷ ops) o h n r =
    let a = stand_parts slot x ops h in
    let e : suc (length ops) + slot ≡ length ops + suc slot = omega arith in
    stand_made slot x (ops ++ o ∷ []) a.0 a.1
    (stand_end (suc slot) ops o a.2 n (subst (λ n. op_fits n o ≡ true) e r))

-- an opcode in a bracketed word is in the first free slot
next_op : (ops : List Op) (o : Op) (later : List Op) → stand_from 0 (ops ++ o ∷ later) ≡ true
    → (takes_dest o ≡ false) × (op_fits (length ops) o ≡ true)
next_op ops o later h =
    let e : length ops + 0 ≡ length ops = omega arith in let a = stand_mid 0 ops o later h in
    (a.0, subst (λ n. op_fits n o ≡ true) e a.1)

pub one_more : (ops : List Op) (o : Op) → stand_from 0 ops ≡ true → takes_dest o ≡ false
    → op_fits (length ops) o ≡ true → stand_from 0 (ops ++ o ∷ []) ≡ true
one_more ops o h n r =
    let e : length ops ≡ length ops + 0 = omega arith in
    stand_end 0 ops o h n (subst (λ n. op_fits n o ≡ true) e r)

-- a right item, by what is right of its parts
pub is_word : (ops : List Op) → nat_lt 0 (length ops) ≡ true → stand_from 0 ops ≡ true
    → is_item (Word ops) ≡ true
unfolding is_item
is_word ops some h = and_from (nat_lt 0 (length ops)) (stand_from 0 ops) some h

pub is_word_to : (ops : List Op) (o : Op) (v : Value) (k : Option ℕ) → IsWordTo ops o v k
    → is_item (WordTo ops o v k) ≡ true
unfolding is_item
is_word_to ops o v k h =
    and_from (stand_from 0 ops && nat_lt (length ops) 3 && takes_dest o
    && is_below (dest_bound (length ops)) v) (is_spare (length ops) k)
    (and_from (stand_from 0 ops && nat_lt (length ops) 3 && takes_dest o)
    (is_below (dest_bound (length ops)) v)
    (and_from (stand_from 0 ops && nat_lt (length ops) 3) (takes_dest o)
    (and_from (stand_from 0 ops) (nat_lt (length ops) 3) h.stands h.short) h.dest) h.below) h.spare

abbrev is_slot : Token → Bool
is_slot (op o) = true
is_slot close_mark = true
is_slot _ = false

no_slot : (c : Inside) (ops : List Op) (t : Token) (rest : List Token) (p : List Section)
    → is_slot t ≡ false → Completes (inside c (in_word ops)) (t ∷ rest) p → ⊥
no_slot c ops t rest p n (i, more, inl ([], e, f), a) =
    let h : t ≡ close_mark = cc in absurd (cc (ap is_slot h))
no_slot c ops t rest p n (i, more, inl (x ∷ later, e, f), a) =
    let h : t ≡ op x = cc in absurd (cc (ap is_slot h))
no_slot c ops t rest p n (i, more, inr ([], o, v, k, e, f), a) =
    let h : t ≡ op o = cc in absurd (cc (ap is_slot h))
no_slot c ops t rest p n (i, more, inr (x ∷ later, o, v, k, e, f), a) =
    let h : t ≡ op x = cc in absurd (cc (ap is_slot h))

word_closed : (c : Inside) (ops : List Op) (rest : List Token) (p : List Section)
    → Completes (inside c (in_word ops)) (close_mark ∷ rest) p → Adds c (Word ops) rest p
word_closed c ops rest p (i, more, inl ([], e, f), a) =
    carry c i (Word ops) more rest p (f ∙ ap Word (append-nil ops)) (cc) a
word_closed c ops rest p (i, more, inl (x ∷ later, e, f), a) = absurd (cc)
word_closed c ops rest p (i, more, inr ([], o, v, k, e, f), a) = absurd (cc)
word_closed c ops rest p (i, more, inr (x ∷ later, o, v, k, e, f), a) = absurd (cc)

is_right : (c : Inside) (i j : Item) (ts : List Token) (p : List Section) → i ≡ j → Adds c i ts p
    → is_item j ≡ true
is_right c i j ts p e a = subst (λ x. is_item x ≡ true) e a.1

joined : (ops : List Op) (o x : Op) (later : List Op) → o ≡ x
    → ops ++ x ∷ later ≡ (ops ++ o ∷ []) ++ later
joined ops o x later e = simp append_assoc (ap (λ y. ops ++ y ∷ later) (sym e))

abbrev Slots : Inside → List Op → Op → List Token → List Section → Type 0
Slots c ops o rest p =
    ((takes_dest o ≡ false) × (op_fits (length ops) o ≡ true)
    × Completes (inside c (in_word (ops ++ o ∷ []))) rest p) ⊎ ((takes_dest o ≡ true)
    × (nat_lt (length ops) 3 ≡ true) × Completes (inside c (behind_dest_op ops o)) rest p)

slot_led : (c : Inside) (ops : List Op) (o : Op) (rest : List Token) (p : List Section)
    → Completes (inside c (in_word ops)) (op o ∷ rest) p → Slots c ops o rest p
slot_led c ops o rest p (i, more, inl ([], e, f), a) = absurd (cc)
slot_led c ops o rest p (i, more, inl (x ∷ later, e, f), a) =
    let h : o ≡ x = cc in
    let r : rest ≡ op_tokens later (close_mark ∷ more) = cc in
    let f' : i ≡ Word ((ops ++ o ∷ []) ++ later) = f ∙ ap Word (joined ops o x later h) in
    let s = next_op ops x later
    (word_parts (ops ++ x ∷ later) (is_right c i (Word (ops ++ x ∷ later)) more p f a)).1 in
    inl (
      subst (λ y. takes_dest y ≡ false) (sym h) s.0,
      subst (λ y. op_fits (length ops) y ≡ true) (sym h) s.1,
      (i, more, inl (later, r, f'), a),
    )
slot_led c ops o rest p (i, more, inr ([], x, v, k, e, f), a) =
    let h : o ≡ x = cc in
    let r : rest ≡ value_token v ∷ spare_tokens k more = cc in
    let f' : i ≡ WordTo ops o v k =
    f ∙ ap (λ y. WordTo y x v k) (append-nil ops) ∙ ap (λ y. WordTo ops y v k) (sym h) in
    let s = word_to_parts ops o v k (is_right c i (WordTo ops o v k) more p f' a) in
    inr (s.dest, s.short, (i, more, (v, k, r, f'), a))
slot_led c ops o rest p (i, more, inr (x ∷ later, y, v, k, e, f), a) =
    let h : o ≡ x = cc in
    let r : rest ≡ op_tokens later (op y ∷ value_token v ∷ spare_tokens k more) = cc in
    let f' : i ≡ WordTo ((ops ++ o ∷ []) ++ later) y v k =
    f ∙ ap (λ z. WordTo z y v k) (joined ops o x later h) in
    let s = next_op ops x later (word_to_parts (ops ++ x ∷ later) y v k
    (is_right c i (WordTo (ops ++ x ∷ later) y v k) more p f a)).stands in
    inl (
      subst (λ y. takes_dest y ≡ false) (sym h) s.0,
      subst (λ y. op_fits (length ops) y ≡ true) (sym h) s.1,
      (i, more, inr (later, y, v, k, r, f'), a),
    )

slot_back : (c : Inside) (ops : List Op) (o : Op) (rest : List Token) (p : List Section)
    → Completes (inside c (in_word (ops ++ o ∷ []))) rest p
    → Completes (inside c (in_word ops)) (op o ∷ rest) p
slot_back c ops o rest p (i, more, inl (later, e, f), a) = (
  i,
  more,
  inl (o ∷ later, ap (λ x. op o ∷ x) e, f ∙ ap Word (sym (joined ops o o later refl))),
  a,
)
slot_back c ops o rest p (i, more, inr (later, x, v, k, e, f), a) = (
  i,
  more,
  inr (
    o ∷ later,
    x,
    v,
    k,
    ap (λ x. op o ∷ x) e,
    f ∙ ap (λ z. WordTo z x v k) (sym (joined ops o o later refl)),
  ),
  a,
)

dest_back : (c : Inside) (ops : List Op) (o : Op) (rest : List Token) (p : List Section)
    → Completes (inside c (behind_dest_op ops o)) rest p
    → Completes (inside c (in_word ops)) (op o ∷ rest) p
dest_back c ops o rest p (i, more, (v, k, e, f), a) = (
  i,
  more,
  inr ([], o, v, k, ap (λ x. op o ∷ x) e, f ∙ ap (λ z. WordTo z o v k) (sym (append-nil ops))),
  a,
)

slot_right : (c : Inside) (ops : List Op) (o : Op) → Good (inside c (in_word ops))
    → Right (inside c (in_word ops)) (op o) (take_slot c ops o)
slot_right c ops o g =
    on_test (takes_dest o) (λ b. Right (inside c (in_word ops)) (op o)
    (if b then (if nat_lt (length ops) 3 then Ok (inside c (behind_dest_op ops o)) else Err BadWord)
    else if op_fits (length ops) o then Ok (inside c (in_word (ops ++ o ∷ []))) else Err BadWord))
    (λ takes. on_test (nat_lt (length ops) 3) (λ b. Right (inside c (in_word ops)) (op o)
    (if b then Ok (inside c (behind_dest_op ops o)) else Err BadWord))
    (λ short. (
      (g.0, short, takes, g.1),
      λ rest p h. ⊎_elim (λ a. absurd (both_ways (takes_dest o) a.0 takes))
          (λ a. a.2) (slot_led c ops o rest p h),
      dest_back c ops o,
    ))
    (λ long rest p h. ⊎_elim (λ a. both_ways (takes_dest o) a.0 takes)
    (λ a. both_ways (nat_lt (length ops) 3) long a.1) (slot_led c ops o rest p h)))
    (λ none. on_test (op_fits (length ops) o) (λ b. Right (inside c (in_word ops)) (op o)
    (if b then Ok (inside c (in_word (ops ++ o ∷ []))) else Err BadWord))
    (λ fits. (
      (one_more ops o g.0 none fits, g.1),
      λ rest p h. ⊎_elim (λ a. a.2) (λ a. absurd (both_ways (takes_dest o) none a.0))
          (slot_led c ops o rest p h),
      slot_back c ops o,
    ))
    (λ full rest p h. ⊎_elim (λ a. both_ways (op_fits (length ops) o) full a.1)
    (λ a. both_ways (takes_dest o) none a.0) (slot_led c ops o rest p h)))

in_word_right : (c : Inside) (ops : List Op) (t : Token) → Good (inside c (in_word ops))
    → Right (inside c (in_word ops)) t (take (inside c (in_word ops)) t)
unfolding part_after
in_word_right c ops (op o) g = slot_right c ops o g
in_word_right c ops close_mark g =
    on_test (nat_lt 0 (length ops)) (λ b. Right (inside c (in_word ops)) close_mark
    (if b then with_part c (Word ops) else Err BadWord))
    (λ some. whole_part c (inside c (in_word ops)) close_mark (Word ops) (Code (followers ops))
    (ap (λ x. part_after x (Word ops)) g.1) (is_word ops some g.0) refl (word_closed c ops)
    (λ rest p a. (Word ops, rest, inl ([], refl, ap Word (sym (append-nil ops))), a)))
    (λ none rest p h. both_ways (nat_lt 0 (length ops)) none
    (word_parts ops (word_closed c ops rest p h).1).0)
in_word_right c ops t g = λ rest p h. no_slot c ops t rest p refl h

-- ---- a destination in brackets

field_number : (c : Inside) (ops : List Op) (o : Op) (n : ℕ) (rest : List Token) (p : List Section)
    → Completes (inside c (behind_dest_op ops o)) (number n ∷ rest) p
    → Completes (inside c (behind_dest ops o (Number n))) rest p
field_number c ops o n rest p (i, more, (v, k, e, f), a) =
    let h = is_number n v rest (spare_tokens k more) e in let h0 = h.0 in
    (i, more, (k, sym h.1, (cc)), a)

field_name : (c : Inside) (ops : List Op) (o : Op) (n : List ℕ) (rest : List Token)
    (p : List Section) → Completes (inside c (behind_dest_op ops o)) (name n ∷ rest) p
    → Completes (inside c (behind_dest ops o (Label n))) rest p
field_name c ops o n rest p (i, more, (v, k, e, f), a) =
    let h = is_label n v rest (spare_tokens k more) e in let h0 = h.0 in
    (i, more, (k, sym h.1, (cc)), a)

field_below : (c : Inside) (ops : List Op) (o : Op) (v : Value) (rest : List Token)
    (p : List Section) → Completes (inside c (behind_dest ops o v)) rest p
    → is_below (dest_bound (length ops)) v ≡ true
field_below c ops o v rest p (i, more, (k, e, f), a) =
    (word_to_parts ops o v k (is_right c i (WordTo ops o v k) more p f a)).below

behind_dest_op_right : (c : Inside) (ops : List Op) (o : Op) (t : Token)
    → Good (inside c (behind_dest_op ops o))
    → Right (inside c (behind_dest_op ops o)) t (take (inside c (behind_dest_op ops o)) t)
behind_dest_op_right c ops o (number n) g =
    on_test (nat_lt n (dest_bound (length ops))) (λ b. Right (inside c (behind_dest_op ops o))
    (number n) (if b then Ok (inside c (behind_dest ops o (Number n))) else Err BadWord))
    (λ below. (
      (g.0, g.1, g.2, below, g.3),
      field_number c ops o n,
      λ rest p (i, more, (k, e, f), a). (i, more, (Number n, k, ap (λ x. number n ∷ x) e, f), a),
    ))
    (λ above rest p h. both_ways (nat_lt n (dest_bound (length ops))) above
    (field_below c ops o (Number n) rest p (field_number c ops o n rest p h)))
behind_dest_op_right c ops o (name s) g = (
  (g.0, g.1, g.2, refl, g.3),
  field_name c ops o s,
  λ rest p (i, more, (k, e, f), a). (i, more, (Label s, k, ap (λ x. name s ∷ x) e, f), a),
)
behind_dest_op_right c ops o t g =
    λ rest p (i, more, (v, k, e, f), a). no_value t v rest (spare_tokens k more) refl e

abbrev ends_dest : Token → Bool
ends_dest slash = true
ends_dest close_mark = true
ends_dest _ = false

no_end : (c : Inside) (ops : List Op) (o : Op) (v : Value) (t : Token) (rest : List Token)
    (p : List Section) → ends_dest t ≡ false
    → Completes (inside c (behind_dest ops o v)) (t ∷ rest) p → ⊥
no_end c ops o v t rest p n (i, more, (None, e, f), a) =
    let h : t ≡ close_mark = cc in absurd (cc (ap ends_dest h))
no_end c ops o v t rest p n (i, more, (Some k, e, f), a) =
    let h : t ≡ slash = cc in absurd (cc (ap ends_dest h))

dest_closed : (c : Inside) (ops : List Op) (o : Op) (v : Value) (rest : List Token)
    (p : List Section) → Completes (inside c (behind_dest ops o v)) (close_mark ∷ rest) p
    → Adds c (WordTo ops o v None) rest p
dest_closed c ops o v rest p (i, more, (None, e, f), a) =
    carry c i (WordTo ops o v None) more rest p f (cc) a
dest_closed c ops o v rest p (i, more, (Some k, e, f), a) = absurd (cc)

slash_led : (c : Inside) (ops : List Op) (o : Op) (v : Value) (rest : List Token) (p : List Section)
    → Completes (inside c (behind_dest ops o v)) (slash ∷ rest) p
    → Completes (inside c (behind_slash ops o v)) rest p
slash_led c ops o v rest p (i, more, (None, e, f), a) = absurd (cc)
slash_led c ops o v rest p (i, more, (Some k, e, f), a) = (i, more, (k, (cc), f), a)

spare_right : (c : Inside) (ops : List Op) (o : Op) (v : Value) (rest : List Token)
    (p : List Section) → Completes (inside c (behind_slash ops o v)) rest p
    → (length ops == 0) ≡ true
spare_right c ops o v rest p (i, more, (k, e, f), a) =
    (and_parts (length ops == 0) (nat_lt k (spare_bound 0))
    (word_to_parts ops o v (Some k) (is_right c i (WordTo ops o v (Some k)) more p f a)).spare).0

behind_dest_right : (c : Inside) (ops : List Op) (o : Op) (v : Value) (t : Token)
    → Good (inside c (behind_dest ops o v))
    → Right (inside c (behind_dest ops o v)) t (take (inside c (behind_dest ops o v)) t)
unfolding part_after
behind_dest_right c ops o v slash g =
    on_test (length ops == 0) (λ b. Right (inside c (behind_dest ops o v)) slash
    (if b then Ok (inside c (behind_slash ops o v)) else Err BadWord))
    (λ first. (
      (g.0, g.1, g.2, g.3, first, g.4),
      slash_led c ops o v,
      λ rest p (i, more, (k, e, f), a). (i, more, (Some k, ap (λ x. slash ∷ x) e, f), a),
    ))
    (λ later rest p h. both_ways (length ops == 0) later
    (spare_right c ops o v rest p (slash_led c ops o v rest p h)))
behind_dest_right c ops o v close_mark g =
    whole_part c (inside c (behind_dest ops o v)) close_mark (WordTo ops o v None)
    (Code (followers ops)) (ap (λ x. part_after x (WordTo ops o v None)) g.4)
    (is_word_to ops o v None
    (record { stands = g.0; short = g.1; dest = g.2; below = g.3; spare = refl })) refl
    (dest_closed c ops o v) (λ rest p a. (WordTo ops o v None, rest, (None, refl, refl), a))
behind_dest_right c ops o v t g = λ rest p h. no_end c ops o v t rest p refl h

-- ---- the spare bits

spare_number : (c : Inside) (ops : List Op) (o : Op) (v : Value) (n : ℕ) (rest : List Token)
    (p : List Section) → Completes (inside c (behind_slash ops o v)) (number n ∷ rest) p
    → Completes (inside c (behind_spare ops o v n)) rest p
spare_number c ops o v n rest p (i, more, (k, e, f), a) =
    let h : n ≡ k = cc in (i, more, ((cc), f ∙ ap (λ x. WordTo ops o v (Some x)) (sym h)), a)

spare_below : (c : Inside) (ops : List Op) (o : Op) (v : Value) (k : ℕ) (rest : List Token)
    (p : List Section) → Completes (inside c (behind_spare ops o v k)) rest p
    → nat_lt k (spare_bound 0) ≡ true
spare_below c ops o v k rest p (i, more, (e, f), a) =
    (and_parts (length ops == 0) (nat_lt k (spare_bound 0))
    (word_to_parts ops o v (Some k) (is_right c i (WordTo ops o v (Some k)) more p f a)).spare).1

behind_slash_right : (c : Inside) (ops : List Op) (o : Op) (v : Value) (t : Token)
    → Good (inside c (behind_slash ops o v))
    → Right (inside c (behind_slash ops o v)) t (take (inside c (behind_slash ops o v)) t)
behind_slash_right c ops o v (number n) g =
    on_test (nat_lt n (spare_bound 0)) (λ b. Right (inside c (behind_slash ops o v)) (number n)
    (if b then Ok (inside c (behind_spare ops o v n)) else Err BadWord))
    (λ below. (
      (g.0, g.1, g.2, g.3, g.4, below, g.5),
      spare_number c ops o v n,
      λ rest p (i, more, (e, f), a). (i, more, (n, ap (λ x. number n ∷ x) e, f), a),
    ))
    (λ above rest p h. both_ways (nat_lt n (spare_bound 0)) above
    (spare_below c ops o v n rest p (spare_number c ops o v n rest p h)))
behind_slash_right c ops o v t g = λ rest p (i, more, (k, e, f), a). cc

behind_spare_right : (c : Inside) (ops : List Op) (o : Op) (v : Value) (k : ℕ) (t : Token)
    → Good (inside c (behind_spare ops o v k))
    → Right (inside c (behind_spare ops o v k)) t (take (inside c (behind_spare ops o v k)) t)
unfolding part_after
behind_spare_right c ops o v k close_mark g =
    whole_part c (inside c (behind_spare ops o v k)) close_mark (WordTo ops o v (Some k))
    (Code (followers ops)) (ap (λ x. part_after x (WordTo ops o v (Some k))) g.6)
    (is_word_to ops o v (Some k) (record {
      stands = g.0;
      short = g.1;
      dest = g.2;
      below = g.3;
      spare = and_from (length ops == 0) (nat_lt k (spare_bound 0)) g.4 g.5;
    })) refl
    (λ rest p (i, more, (e, f), a). carry c i (WordTo ops o v (Some k)) more rest p f (cc) a)
    (λ rest p a. (WordTo ops o v (Some k), rest, (refl, refl), a))
behind_spare_right c ops o v k t g = λ rest p (i, more, (e, f), a). cc

-- ---- between items

barred : (c : Inside) (part : Part) (i : Item) (ts : List Token) (p : List Section)
    → c.before.part ≡ part → part_after part i ≡ None → Adds c i ts p → ⊥
barred c part i ts p e n a =
    let h : part_after c.before.part i ≡ None = subst (λ x. part_after x i ≡ None) (sym e) n in
    let k = a.3 in cc

barred_as : (c : Inside) (part : Part) (i j : Item) (ts : List Token) (p : List Section) → i ≡ j
    → c.before.part ≡ part → part_after part j ≡ None → Adds c i ts p → ⊥
barred_as c part i j ts p f e n a = barred c part j ts p e n (subst (λ x. Adds c x ts p) f a)

-- an item of one token
one_token : (c : Inside) (part : Part) (t : Token) (i : Item) (q : Part) → c.before.part ≡ part
    → part_after part i ≡ Some q → is_item i ≡ true → is_new i c.before.labels ≡ true
    → ((rest : List Token) (p : List Section) → Leads c p (t ∷ rest) → Adds c i rest p)
    → ((rest : List Token) (p : List Section) → Adds c i rest p → Leads c p (t ∷ rest))
    → Right (inside c between) t (Ok (item_added c i q))
one_token c part t i q e f a b to from =
    whole c (inside c between) t i q (subst (λ x. part_after x i ≡ Some q) (sym e) f) a b
    (λ rest p h. to rest p (led c (t ∷ rest) p h))
    (λ rest p h. led_back c (t ∷ rest) p (from rest p h))

op_barred : (c : Inside) (part : Part) (o : Op) (rest : List Token) (p : List Section)
    → c.before.part ≡ part → ((v : Value) → part_after part (Transfer o v) ≡ None)
    → part_after part (Instruction o) ≡ None → Leads c p (op o ∷ rest) → ⊥
op_barred c part o rest p e n m (inl a) = barred c part (Instruction o) rest p e m a
op_barred c part o rest p e n m (inr (i, more, (v, g, f), a)) =
    barred_as c part i (Transfer o v) more p f e (n v) a

instruction_is : (o : Op) → takes_dest o ≡ false → is_followed o ≡ false
    → is_item (Instruction o) ≡ true
unfolding is_item
instruction_is o a b =
    and_from (not (takes_dest o)) (not (is_followed o)) (not_from_false (takes_dest o) a)
    (not_from_false (is_followed o) b)

-- what an opcode leads to in the code part
op_led : (c : Inside) (o : Op) (rest : List Token) (p : List Section) → Leads c p (op o ∷ rest)
    → ((takes_dest o ≡ false) × (is_followed o ≡ false) × Adds c (Instruction o) rest p)
    ⊎ ((takes_dest o ≡ true) × Completes (inside c (behind_op o)) rest p)
op_led c o rest p (inl a) = let h = instruction_parts o a.1 in inl (h.0, h.1, a)
op_led c o rest p (inr (i, more, (v, g, f), a)) =
    inr ((transfer_parts o v (is_right c i (Transfer o v) more p f a)).0, (i, more, (v, g, f), a))

op_right : (c : Inside) (o : Op) → c.before.part ≡ Code 0
    → Right (inside c between) (op o) (take_op c o)
unfolding part_after
op_right c o e =
    on_test (takes_dest o)
    (λ b. Right (inside c between) (op o) (if b then Ok (inside c (behind_op o))
    else if is_followed o then Err BadToken else Ok (item_added c (Instruction o) (Code 0))))
    (λ takes. (
      (takes, e),
      λ rest p h. ⊎_elim (λ a. absurd (both_ways (takes_dest o) a.0 takes))
          (λ a. a.1) (op_led c o rest p (led c (op o ∷ rest) p h)),
      λ rest p h. led_back c (op o ∷ rest) p (inr h),
    ))
    (λ none. on_test (is_followed o) (λ b. Right (inside c between) (op o)
    (if b then Err BadToken else Ok (item_added c (Instruction o) (Code 0))))
    (λ follows rest p h. ⊎_elim (λ a. both_ways (is_followed o) a.1 follows)
    (λ a. both_ways (takes_dest o) none a.0) (op_led c o rest p (led c (op o ∷ rest) p h)))
    (λ alone. one_token c (Code 0) (op o) (Instruction o) (Code 0) e refl
    (instruction_is o none alone) refl (λ rest p h. ⊎_elim (λ a. a.2)
    (λ a. absurd (both_ways (takes_dest o) none a.0)) (op_led c o rest p h)) (λ rest p a. inl a)))

first_op : (c : Inside) (o : Op) (part : Part) → c.before.part ≡ part
    → Right (inside c between) (op o) (take_first part c (op o))
unfolding part_after
first_op c o Behind e =
    λ rest p h. op_barred c Behind o rest p e (λ v. refl) refl (led c (op o ∷ rest) p h)
first_op c o (Code (suc n)) e =
    λ rest p h. op_barred c (Code (suc n)) o rest p e (λ v. refl) refl (led c (op o ∷ rest) p h)
first_op c o (Code zero) e = op_right c o e

first_number : (c : Inside) (n : ℕ) (part : Part) → c.before.part ≡ part
    → Right (inside c between) (number n) (take_first part c (number n))
unfolding part_after is_item
first_number c n Behind e =
    λ rest p h. barred c Behind (Literal n) rest p e refl (led c (number n ∷ rest) p h)
first_number c n (Code (suc m)) e =
    λ rest p h. barred c (Code (suc m)) (Literal n) rest p e refl (led c (number n ∷ rest) p h)
first_number c n (Code zero) e =
    one_token c (Code 0) (number n) (Literal n) (Code 0) e refl refl refl
    (λ rest p h. h) (λ rest p h. h)

first_align : (c : Inside) (part : Part) → c.before.part ≡ part
    → Right (inside c between) align (take_first part c align)
unfolding part_after is_item
first_align c Behind e = λ rest p h. barred c Behind Align rest p e refl (led c (align ∷ rest) p h)
first_align c (Code (suc m)) e =
    λ rest p h. barred c (Code (suc m)) Align rest p e refl (led c (align ∷ rest) p h)
first_align c (Code zero) e =
    one_token c (Code 0) align Align (Code 0) e refl refl refl (λ rest p h. h) (λ rest p h. h)

first_data : (c : Inside) (part : Part) → c.before.part ≡ part
    → Right (inside c between) data_part (take_first part c data_part)
unfolding part_after is_item
first_data c Behind e =
    λ rest p h. barred c Behind Data rest p e refl (led c (data_part ∷ rest) p h)
first_data c (Code (suc m)) e =
    one_token c (Code (suc m)) data_part Data Behind e refl refl refl
    (λ rest p h. h) (λ rest p h. h)
first_data c (Code zero) e =
    one_token c (Code 0) data_part Data Behind e refl refl refl (λ rest p h. h) (λ rest p h. h)

first_comma : (c : Inside) (part : Part) → c.before.part ≡ part
    → Right (inside c between) comma (take_first part c comma)
unfolding part_after
first_comma c Behind e = (
  (Behind, λ v. ap (λ x. part_after x (Plain v)) e),
  λ rest p h. led c (comma ∷ rest) p h,
  λ rest p h. led_back c (comma ∷ rest) p h,
)
first_comma c (Code (suc m)) e = (
  (Code m, λ v. ap (λ x. part_after x (Plain v)) e),
  λ rest p h. led c (comma ∷ rest) p h,
  λ rest p h. led_back c (comma ∷ rest) p h,
)
first_comma c (Code zero) e =
    λ rest p h. let (i, more, (v, g, f), a) = led c (comma ∷ rest) p h in
    barred_as c (Code 0) i (Plain v) more p f e refl a

open_barred : (c : Inside) (part : Part) (rest : List Token) (p : List Section)
    → c.before.part ≡ part → ((ops : List Op) → part_after part (Word ops) ≡ None)
    → ((ops : List Op) (o : Op) (v : Value) (k : Option ℕ)
    → part_after part (WordTo ops o v k) ≡ None) → Leads c p (open_mark ∷ rest) → ⊥
open_barred c part rest p e n m (i, more, inl (later, g, f), a) =
    barred_as c part i (Word later) more p f e (n later) a
open_barred c part rest p e n m (i, more, inr (later, o, v, k, g, f), a) =
    barred_as c part i (WordTo later o v k) more p f e (m later o v k) a

first_open : (c : Inside) (part : Part) → c.before.part ≡ part
    → Right (inside c between) open_mark (take_first part c open_mark)
unfolding part_after
first_open c Behind e =
    λ rest p h. open_barred c Behind rest p e
    (λ ops. refl) (λ ops o v k. refl) (led c (open_mark ∷ rest) p h)
first_open c (Code (suc m)) e =
    λ rest p h. open_barred c (Code (suc m)) rest p e
    (λ ops. refl) (λ ops o v k. refl) (led c (open_mark ∷ rest) p h)
first_open c (Code zero) e = (
  (refl, e),
  λ rest p h. led c (open_mark ∷ rest) p h,
  λ rest p h. led_back c (open_mark ∷ rest) p h,
)

-- tokens that begin no item
first_no : (c : Inside) (t : Token) → take_first Behind c t ≡ Err BadToken
    → ((n : ℕ) → take_first (Code (suc n)) c t ≡ Err BadToken)
    → take_first (Code 0) c t ≡ Err BadToken
    → ((rest : List Token) (p : List Section) → Leads c p (t ∷ rest) → ⊥)
    → Right (inside c between) t (take_first c.before.part c t)
first_no c t behind owed free never =
    subst (Right (inside c between) t) (sym (is_bad c.before.part))
    (λ rest p h. never rest p (led c (t ∷ rest) p h))
  where
    is_bad : (part : Part) → take_first part c t ≡ Err BadToken
    is_bad Behind = behind
    is_bad (Code (suc n)) = owed n
    is_bad (Code zero) = free

label_right : (c : Inside) (s : List ℕ) → Right (inside c between) (label s) (take_label c s)
unfolding part_after is_item
label_right c s =
    on_test (is_reserved s)
    (λ b. Right (inside c between) (label s) (if b then Err ReservedLabel else if is_among s
    c.before.labels then Err DuplicateLabel else Ok (item_added c (Here s) c.before.part)))
    (λ reserved rest p h. both_ways (is_reserved s)
    (not-true (is_reserved s) (led c (label s ∷ rest) p h).1) reserved)
    (λ free. on_test (is_among s c.before.labels) (λ b. Right (inside c between) (label s)
    (if b then Err DuplicateLabel else Ok (item_added c (Here s) c.before.part)))
    (λ twice rest p h. both_ways (is_among s c.before.labels)
    (not-true (is_among s c.before.labels) (led c (label s ∷ rest) p h).2) twice)
    (λ new. whole c (inside c between) (label s) (Here s) c.before.part refl
    (not_from_false (is_reserved s) free) (not_from_false (is_among s c.before.labels) new)
    (λ rest p h. led c (label s ∷ rest) p h) (λ rest p h. led_back c (label s ∷ rest) p h)))

between_right : (c : Inside) (t : Token) → Right (inside c between) t (take_between c t)
between_right c (bad k) = λ rest p h. led c (bad k ∷ rest) p h
between_right c end =
    on_test c.before.has_word
    (λ b. Right (inside c between) end (if b then Ok (finished (sections_closed c)) else Err Empty))
    (λ some. (
      tt,
      λ rest p h. let a = led c (end ∷ rest) p h in (a.1, a.2),
      λ rest p h. led_back c (end ∷ rest) p (some, h.0, h.1),
    ))
    (λ none rest p h. both_ways c.before.has_word none (led c (end ∷ rest) p h).0)
between_right c node =
    on_test c.before.has_word (λ b. Right (inside c between) node
    (if b then Ok (naming (sections_closed c) (c.seen ++ c.name ∷ [])) else Err Empty))
    (λ some.
    (tt, λ rest p h. (led c (node ∷ rest) p h).1, λ rest p h. led_back c (node ∷ rest) p (some, h)))
    (λ none rest p h. both_ways c.before.has_word none (led c (node ∷ rest) p h).0)
between_right c (label s) = label_right c s
between_right c (op o) = first_op c o c.before.part refl
between_right c (number n) = first_number c n c.before.part refl
between_right c align = first_align c c.before.part refl
between_right c data_part = first_data c c.before.part refl
between_right c comma = first_comma c c.before.part refl
between_right c open_mark = first_open c c.before.part refl
between_right c t = first_no c t refl (λ n. refl) refl (λ rest p h. h)

-- ---- around sections

naming_led : (done : List Section) (seen : List ℕ) (n : ℕ) (rest : List Token) (p : List Section)
    → Completes (naming done seen) (node_name n ∷ rest) p → (is_named n seen ≡ false)
    × Follows (record { done = done; seen = seen; name = n; items = []; before = start }) rest p
unfolding Sections
naming_led done seen n rest p (s, ss, e, ok, f) =
    let h : n ≡ s.name = cc in
    let r : rest ≡ items_tokens s.items (text_tokens ss) = cc in (
      subst (λ x. is_named x seen ≡ false) (sym h) ok.0,
      (
        s.items,
        ss,
        r,
        ok.1,
        subst (λ x. Sections (seen ++ x ∷ []) ss) (sym h) ok.2,
        f ∙ ap (λ x. done ++ record { name = x; items = s.items } ∷ ss) (sym h),
      ),
    )

naming_back : (done : List Section) (seen : List ℕ) (n : ℕ) (rest : List Token) (p : List Section)
    → is_named n seen ≡ false
    → Follows (record { done = done; seen = seen; name = n; items = []; before = start }) rest p
    → Completes (naming done seen) (node_name n ∷ rest) p
unfolding Sections
naming_back done seen n rest p free (is, ss, e, ok, more, f) =
    (record { name = n; items = is }, ss, ap (λ x. node_name n ∷ x) e, (free, ok, more), f)

naming_right : (done : List Section) (seen : List ℕ) (t : Token)
    → Right (naming done seen) t (take (naming done seen) t)
naming_right done seen (node_name n) =
    on_test (is_named n seen)
    (λ b. Right (naming done seen) (node_name n) (if b then Err DuplicateNode else Ok
    (inside (record { done = done; seen = seen; name = n; items = []; before = start }) between)))
    (λ twice rest p h. both_ways (is_named n seen) (naming_led done seen n rest p h).0 twice)
    (λ free. (
      tt,
      λ rest p h. (naming_led done seen n rest p h).1,
      λ rest p h. naming_back done seen n rest p free h,
    ))
naming_right done seen t = λ rest p (s, ss, e, ok, f). cc

source_led : (t : Token) (rest : List Token) (p : List Section) → Source (t ∷ rest) p
    → (t ≡ node) × Completes (naming [] []) rest p
unfolding Source Sections
source_led t rest [] h = absurd h
source_led t rest (s ∷ ss) (e, ok) = ((cc), (s, ss, (cc), ok, refl))

source_back : (rest : List Token) (p : List Section) → Completes (naming [] []) rest p
    → Source (node ∷ rest) p
unfolding Source Sections
source_back rest p (s, ss, e, ok, f) =
    subst (λ x. Source (node ∷ rest) x) (sym f) (ap (λ x. node ∷ x) e, ok)

nothing_right : (t : Token) → Right nothing t (take nothing t)
nothing_right node = (tt, λ rest p h. (source_led node rest p h).1, source_back)
nothing_right t = λ rest p h. let e = (source_led t rest p h).0 in cc

finished_right : (q : List Section) (t : Token) → Right (finished q) t (take (finished q) t)
finished_right q t = λ rest p h. let e = h.0 in cc

-- the answer to each token is right
pub take_right : (s : State) (t : Token) → Good s → Right s t (take s t)
take_right nothing t g = nothing_right t
take_right (naming done seen) t g = naming_right done seen t
take_right (inside c between) t g = between_right c t
take_right (inside c (behind_op o)) t g = behind_op_right c o t g
take_right (inside c behind_comma) t g = behind_comma_right c t g
take_right (inside c (in_word ops)) t g = in_word_right c ops t g
take_right (inside c (behind_dest_op ops o)) t g = behind_dest_op_right c ops o t g
take_right (inside c (behind_dest ops o v)) t g = behind_dest_right c ops o v t g
take_right (inside c (behind_slash ops o v)) t g = behind_slash_right c ops o v t g
take_right (inside c (behind_spare ops o v k)) t g = behind_spare_right c ops o v k t g
take_right (finished q) t g = finished_right q t
