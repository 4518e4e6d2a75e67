-- The kind of the parser's fault is that of the definition.
use Rattle.std.proofs.Common.{◌≡◌, ℕ, zero, suc, Bool, true, false, List, [], ◌∷◌, ◌++◌, length, Some, None, Result, Ok, Err, refl, sym, ap, ◌∙◌, subst}
use Rattle.std.specs.Prelude.{◌==◌, nat_lt, if◌then◌else◌}
use Rattle.ga_word.specs.declared.op.Op.{Op}
use Rattle.ga_word.specs.Op.{takes_dest}
use Rattle.ga_pack.specs.Followers.{followers, is_followed}
use Rattle.ga_pack.specs.Model.Token.{Token, op, number, name, label, node, node_name, align, data_part, open_mark, close_mark, comma, slash, bad, end, is_node, is_reserved}
use Rattle.ga_pack.specs.Model.Source.{Value, Number, Label, Item, Instruction, Transfer, Literal, Here, Align, Word, WordTo, Plain, Data, Section, Part, Code, Behind, start, part_after, is_among, is_named}
use Rattle.ga_pack.specs.Model.SourceFault.{in_brackets, in_data, wants_value, kind_at, bracket_fault, owed_fault, value_fault, item_fault}
use Rattle.ga_pack.specs.Slots.{dest_bound, op_fits, spare_bound}
use Rattle.ga_source.specs.inner.Machine.{At, between, behind_op, behind_comma, in_word, behind_dest_op, behind_dest, behind_slash, behind_spare, Inside, State, nothing, naming, inside, finished, sections_closed, item_added, take, take_between, take_first, take_label, with_part, Good}
use Rattle.ga_pack.proofs.ByCases.{on_test}
use Rattle.ga_pack.specs.declared.error_kind.SourceErrorKind.{SourceErrorKind}
use Rattle.ga_pack.specs.declared.error_kind.SourceErrorKind.TheVariants.{BadToken, NumberRange, DuplicateNode, DuplicateLabel, ReservedLabel, BadWord, Empty}

abbrev is_behind : Part → Bool
is_behind Behind = true
is_behind (Code n) = false

abbrev is_bracketed : At → Bool
is_bracketed between = false
is_bracketed (behind_op o) = false
is_bracketed behind_comma = false
is_bracketed _ = true

abbrev Last : At → Token → Type 0
Last between u = wants_value u ≡ false
Last (behind_op o) u = wants_value u ≡ true
Last behind_comma u = wants_value u ≡ true
Last _ u = Unit {0}

-- the tokens that were read, the nearest first, as the state has them
pub record Read (c : Inside) (at : At) (u : Token) (back : List Token) : Type 0 where
  pub no_node : is_node u ≡ false
  pub brackets : in_brackets (u ∷ back) ≡ is_bracketed at
  pub part : in_data (u ∷ back) ≡ is_behind c.before.part
  pub last : Last at u

abbrev pub Shape : State → List Token → Type 0
Shape nothing back = back ≡ []
Shape (naming done seen) back = (r : List Token) × (back ≡ node ∷ r) × (in_brackets r ≡ false)
Shape (inside c at) back = (u : Token) × (r : List Token) × (back ≡ u ∷ r) × Read c at u r
Shape (finished q) back = Unit {0}

abbrev pub is_finished : State → Bool
is_finished (finished q) = true
is_finished _ = false

abbrev pub HasShape : State → List Token → Token → Result State SourceErrorKind → Type 0
HasShape s back t (Ok s') = Shape s' (t ∷ back)
HasShape s back t (Err k) = is_finished s ≡ false → k ≡ kind_at back t

-- the kind, if the last token is u
kind_bracket : (u t : Token) (back : List Token) → is_node u ≡ false → in_brackets (u ∷ back) ≡ true
    → kind_at (u ∷ back) t ≡ bracket_fault t
unfolding kind_at
kind_bracket u t back n b = rw (n, b) refl

kind_value : (u t : Token) (back : List Token) → is_node u ≡ false → in_brackets (u ∷ back) ≡ false
    → wants_value u ≡ true → kind_at (u ∷ back) t ≡ value_fault t
unfolding kind_at
kind_value u t back n b w = rw (n, b, w) refl

kind_item : (u t : Token) (back : List Token) (d : Bool) → is_node u ≡ false
    → in_brackets (u ∷ back) ≡ false → wants_value u ≡ false → in_data (u ∷ back) ≡ d
    → kind_at (u ∷ back) t ≡ item_fault d t
unfolding kind_at
kind_item u t back d n b w e = rw (n, b, w, e) refl

on_part : (s : State) (back : List Token) (t : Token) (c : Inside) (i : Item) (q : Part)
    → part_after c.before.part i ≡ Some q → Shape (item_added c i q) (t ∷ back)
    → HasShape s back t (with_part c i)
on_part s back t c i q e h =
    subst (λ x. HasShape s back t (elim x [ None ↦ Err BadToken | Some p ↦ Ok (item_added c i p) ]))
    (sym e) h

plain_part : (part q : Part) (v : Value) → part_after part (Plain v) ≡ Some q
    → is_behind part ≡ is_behind q
unfolding part_after
plain_part Behind q v e = let h : Behind ≡ q = cc in ap is_behind h
plain_part (Code (suc n)) q v e = let h : Code n ≡ q = cc in ap is_behind h
plain_part (Code zero) q v e = absurd (cc)

code_part : (c : Inside) (d : Bool) → d ≡ is_behind c.before.part → c.before.part ≡ Code 0
    → d ≡ false
code_part c d e f = e ∙ ap is_behind f

-- a fault at a place for a value, and in brackets
value_kind : (c : Inside) (at : At) (u t : Token) (r : List Token) → Read c at u r
    → is_bracketed at ≡ false → wants_value u ≡ true → value_fault t ≡ kind_at (u ∷ r) t
value_kind c at u t r rd b w = sym (kind_value u t r rd.no_node (rd.brackets ∙ b) w)

bracket_kind : (c : Inside) (at : At) (u t : Token) (r : List Token) → Read c at u r
    → is_bracketed at ≡ true → bracket_fault t ≡ kind_at (u ∷ r) t
bracket_kind c at u t r rd b = sym (kind_bracket u t r rd.no_node (rd.brackets ∙ b))

op_shaped : (c : Inside) (o : Op) (u t : Token) (r : List Token) → Good (inside c (behind_op o))
    → Read c (behind_op o) u r
    → HasShape (inside c (behind_op o)) (u ∷ r) t (take (inside c (behind_op o)) t)
op_shaped c o u (number n) r g rd =
    on_test (nat_lt n (dest_bound 0)) (λ b. HasShape (inside c (behind_op o)) (u ∷ r) (number n)
    (if b then Ok (item_added c (Transfer o (Number n)) (Code 0)) else Err NumberRange))
    (λ e. (
      number n,
      u ∷ r,
      refl,
      record {
        no_node = refl;
        brackets = rd.brackets;
        part = code_part c (in_data (u ∷ r)) rd.part g.1;
        last = refl;
      },
    ))
    (λ e f. value_kind c (behind_op o) u (number n) r rd refl rd.last)
op_shaped c o u (name s) r g rd = (
  name s,
  u ∷ r,
  refl,
  record {
    no_node = refl;
    brackets = rd.brackets;
    part = code_part c (in_data (u ∷ r)) rd.part g.1;
    last = refl;
  },
)
op_shaped c o u t r g rd = λ f. value_kind c (behind_op o) u t r rd refl rd.last

comma_shaped : (c : Inside) (u t : Token) (r : List Token) → Good (inside c behind_comma)
    → Read c behind_comma u r
    → HasShape (inside c behind_comma) (u ∷ r) t (take (inside c behind_comma) t)
comma_shaped c u (number n) r g rd =
    on_part (inside c behind_comma) (u ∷ r) (number n) c (Plain (Number n)) g.0 (g.1 (Number n)) (
      number n,
      u ∷ r,
      refl,
      record {
        no_node = refl;
        brackets = rd.brackets;
        part = rd.part ∙ plain_part c.before.part g.0 (Number n) (g.1 (Number n));
        last = refl;
      },
    )
comma_shaped c u (name n) r g rd =
    on_part (inside c behind_comma) (u ∷ r) (name n) c (Plain (Label n)) g.0 (g.1 (Label n)) (
      name n,
      u ∷ r,
      refl,
      record {
        no_node = refl;
        brackets = rd.brackets;
        part = rd.part ∙ plain_part c.before.part g.0 (Label n) (g.1 (Label n));
        last = refl;
      },
    )
comma_shaped c u t r g rd = λ f. value_kind c behind_comma u t r rd refl rd.last

word_shaped : (c : Inside) (ops : List Op) (u t : Token) (r : List Token)
    → Good (inside c (in_word ops)) → Read c (in_word ops) u r
    → HasShape (inside c (in_word ops)) (u ∷ r) t (take (inside c (in_word ops)) t)
unfolding part_after
word_shaped c ops u (op o) r g rd =
    on_test (takes_dest o) (λ b. HasShape (inside c (in_word ops)) (u ∷ r) (op o)
    (if b then (if nat_lt (length ops) 3 then Ok (inside c (behind_dest_op ops o)) else Err BadWord)
    else if op_fits (length ops) o then Ok (inside c (in_word (ops ++ o ∷ []))) else Err BadWord))
    (λ takes. on_test (nat_lt (length ops) 3) (λ b. HasShape (inside c (in_word ops)) (u ∷ r) (op o)
    (if b then Ok (inside c (behind_dest_op ops o)) else Err BadWord))
    (λ e. (
      op o,
      u ∷ r,
      refl,
      record { no_node = refl; brackets = rd.brackets; part = rd.part; last = tt },
    ))
    (λ e f. bracket_kind c (in_word ops) u (op o) r rd refl))
    (λ none. on_test (op_fits (length ops) o) (λ b. HasShape (inside c (in_word ops)) (u ∷ r) (op o)
    (if b then Ok (inside c (in_word (ops ++ o ∷ []))) else Err BadWord))
    (λ e. (
      op o,
      u ∷ r,
      refl,
      record { no_node = refl; brackets = rd.brackets; part = rd.part; last = tt },
    ))
    (λ e f. bracket_kind c (in_word ops) u (op o) r rd refl))
word_shaped c ops u close_mark r g rd =
    on_test (nat_lt 0 (length ops)) (λ b. HasShape (inside c (in_word ops)) (u ∷ r) close_mark
    (if b then with_part c (Word ops) else Err BadWord))
    (λ e. on_part (inside c (in_word ops)) (u ∷ r) close_mark c (Word ops) (Code (followers ops))
    (ap (λ x. part_after x (Word ops)) g.1) (
      close_mark,
      u ∷ r,
      refl,
      record {
        no_node = refl;
        brackets = refl;
        part = code_part c (in_data (u ∷ r)) rd.part g.1;
        last = refl;
      },
    ))
    (λ e f. bracket_kind c (in_word ops) u close_mark r rd refl)
word_shaped c ops u t r g rd = λ f. bracket_kind c (in_word ops) u t r rd refl

field_shaped : (c : Inside) (ops : List Op) (o : Op) (u t : Token) (r : List Token)
    → Good (inside c (behind_dest_op ops o)) → Read c (behind_dest_op ops o) u r
    → HasShape (inside c (behind_dest_op ops o)) (u ∷ r) t
    (take (inside c (behind_dest_op ops o)) t)
field_shaped c ops o u (number n) r g rd =
    on_test (nat_lt n (dest_bound (length ops))) (λ b. HasShape (inside c (behind_dest_op ops o))
    (u ∷ r) (number n) (if b then Ok (inside c (behind_dest ops o (Number n))) else Err BadWord))
    (λ e. (
      number n,
      u ∷ r,
      refl,
      record { no_node = refl; brackets = rd.brackets; part = rd.part; last = tt },
    ))
    (λ e f. bracket_kind c (behind_dest_op ops o) u (number n) r rd refl)
field_shaped c ops o u (name s) r g rd = (
  name s,
  u ∷ r,
  refl,
  record { no_node = refl; brackets = rd.brackets; part = rd.part; last = tt },
)
field_shaped c ops o u t r g rd = λ f. bracket_kind c (behind_dest_op ops o) u t r rd refl

dest_shaped : (c : Inside) (ops : List Op) (o : Op) (v : Value) (u t : Token) (r : List Token)
    → Good (inside c (behind_dest ops o v)) → Read c (behind_dest ops o v) u r
    → HasShape (inside c (behind_dest ops o v)) (u ∷ r) t (take (inside c (behind_dest ops o v)) t)
unfolding part_after
dest_shaped c ops o v u slash r g rd =
    on_test (length ops == 0) (λ b. HasShape (inside c (behind_dest ops o v)) (u ∷ r) slash
    (if b then Ok (inside c (behind_slash ops o v)) else Err BadWord))
    (λ e. (
      slash,
      u ∷ r,
      refl,
      record { no_node = refl; brackets = rd.brackets; part = rd.part; last = tt },
    ))
    (λ e f. bracket_kind c (behind_dest ops o v) u slash r rd refl)
dest_shaped c ops o v u close_mark r g rd =
    on_part (inside c (behind_dest ops o v)) (u ∷ r) close_mark c (WordTo ops o v None)
    (Code (followers ops)) (ap (λ x. part_after x (WordTo ops o v None)) g.4) (
      close_mark,
      u ∷ r,
      refl,
      record {
        no_node = refl;
        brackets = refl;
        part = code_part c (in_data (u ∷ r)) rd.part g.4;
        last = refl;
      },
    )
dest_shaped c ops o v u t r g rd = λ f. bracket_kind c (behind_dest ops o v) u t r rd refl

slash_shaped : (c : Inside) (ops : List Op) (o : Op) (v : Value) (u t : Token) (r : List Token)
    → Read c (behind_slash ops o v) u r → HasShape (inside c (behind_slash ops o v)) (u ∷ r) t
    (take (inside c (behind_slash ops o v)) t)
slash_shaped c ops o v u (number k) r rd =
    on_test (nat_lt k (spare_bound 0)) (λ b. HasShape (inside c (behind_slash ops o v))
    (u ∷ r) (number k) (if b then Ok (inside c (behind_spare ops o v k)) else Err BadWord))
    (λ e. (
      number k,
      u ∷ r,
      refl,
      record { no_node = refl; brackets = rd.brackets; part = rd.part; last = tt },
    ))
    (λ e f. bracket_kind c (behind_slash ops o v) u (number k) r rd refl)
slash_shaped c ops o v u t r rd = λ f. bracket_kind c (behind_slash ops o v) u t r rd refl

spare_shaped : (c : Inside) (ops : List Op) (o : Op) (v : Value) (k : ℕ) (u t : Token)
    (r : List Token) → Good (inside c (behind_spare ops o v k))
    → Read c (behind_spare ops o v k) u r → HasShape (inside c (behind_spare ops o v k)) (u ∷ r) t
    (take (inside c (behind_spare ops o v k)) t)
unfolding part_after
spare_shaped c ops o v k u close_mark r g rd =
    on_part (inside c (behind_spare ops o v k)) (u ∷ r) close_mark c (WordTo ops o v (Some k))
    (Code (followers ops)) (ap (λ x. part_after x (WordTo ops o v (Some k))) g.6) (
      close_mark,
      u ∷ r,
      refl,
      record {
        no_node = refl;
        brackets = refl;
        part = code_part c (in_data (u ∷ r)) rd.part g.6;
        last = refl;
      },
    )
spare_shaped c ops o v k u t r g rd = λ f. bracket_kind c (behind_spare ops o v k) u t r rd refl

-- between items

item_kind : (c : Inside) (u t : Token) (r : List Token) → Read c between u r
    → item_fault (is_behind c.before.part) t ≡ kind_at (u ∷ r) t
item_kind c u t r rd =
    sym (kind_item u t r (is_behind c.before.part) rd.no_node rd.brackets rd.last rd.part)

item_kind_of : (c : Inside) (u t : Token) (r : List Token) (k : SourceErrorKind)
    → Read c between u r → k ≡ item_fault (is_behind c.before.part) t → k ≡ kind_at (u ∷ r) t
item_kind_of c u t r k rd e = e ∙ item_kind c u t r rd

label_shaped : (c : Inside) (s : List ℕ) (u : Token) (r : List Token) → Read c between u r
    → HasShape (inside c between) (u ∷ r) (label s) (take_label c s)
label_shaped c s u r rd =
    on_test (is_reserved s) (λ b. HasShape (inside c between) (u ∷ r) (label s)
    (if b then Err ReservedLabel else if is_among s c.before.labels then Err DuplicateLabel
    else Ok (item_added c (Here s) c.before.part)))
    (λ e f. item_kind_of c u (label s) r ReservedLabel rd (rw e refl))
    (λ e. on_test (is_among s c.before.labels) (λ b. HasShape (inside c between) (u ∷ r) (label s)
    (if b then Err DuplicateLabel else Ok (item_added c (Here s) c.before.part)))
    (λ h f. item_kind_of c u (label s) r DuplicateLabel rd (rw e refl))
    (λ h. (
      label s,
      u ∷ r,
      refl,
      record { no_node = refl; brackets = rd.brackets; part = rd.part; last = refl },
    )))

-- a token that makes a whole item of a part
one_shaped : (c : Inside) (t : Token) (i : Item) (q : Part) (u : Token) (r : List Token)
    → Read c between u r → is_node t ≡ false → in_brackets (t ∷ u ∷ r) ≡ in_brackets (u ∷ r)
    → in_data (t ∷ u ∷ r) ≡ is_behind q → wants_value t ≡ false
    → Shape (item_added c i q) (t ∷ u ∷ r)
one_shaped c t i q u r rd n b d w =
    (t, u ∷ r, refl, record { no_node = n; brackets = b ∙ rd.brackets; part = d; last = w })

code_data : (c : Inside) (u : Token) (r : List Token) (n : ℕ) → Read c between u r
    → c.before.part ≡ Code n → in_data (u ∷ r) ≡ false
code_data c u r n rd e = rd.part ∙ ap is_behind e

part_kind : (c : Inside) (part : Part) (u t : Token) (r : List Token) (k : SourceErrorKind)
    → c.before.part ≡ part → Read c between u r → k ≡ item_fault (is_behind part) t
    → k ≡ kind_at (u ∷ r) t
part_kind c part u t r k e rd h =
    item_kind_of c u t r k rd (h ∙ ap (λ x. item_fault (is_behind x) t) (sym e))

abbrev Begins1 : Token → Type 0
Begins1 (bad k) = ⊥
Begins1 end = ⊥
Begins1 node = ⊥
Begins1 (label s) = ⊥
Begins1 _ = Unit {0}

first_shaped : (c : Inside) (part : Part) (u t : Token) (r : List Token) → c.before.part ≡ part
    → Begins1 t → Read c between u r → HasShape (inside c between) (u ∷ r) t (take_first part c t)
first_shaped c part u (bad k) r e w rd = absurd w
first_shaped c part u end r e w rd = absurd w
first_shaped c part u node r e w rd = absurd w
first_shaped c part u (label s) r e w rd = absurd w
first_shaped c Behind u comma r e w rd = (
  comma,
  u ∷ r,
  refl,
  record { no_node = refl; brackets = rd.brackets; part = rd.part; last = refl },
)
first_shaped c Behind u t r e w rd = λ f. part_kind c Behind u t r BadToken e rd refl
first_shaped c (Code (suc n)) u comma r e w rd = (
  comma,
  u ∷ r,
  refl,
  record { no_node = refl; brackets = rd.brackets; part = rd.part; last = refl },
)
first_shaped c (Code (suc n)) u data_part r e w rd =
    one_shaped c data_part Data Behind u r rd refl refl refl refl
first_shaped c (Code (suc n)) u t r e w rd =
    λ f. part_kind c (Code (suc n)) u t r (owed_fault t) e rd refl
first_shaped c (Code zero) u (op o) r e w rd =
    on_test (takes_dest o)
    (λ b. HasShape (inside c between) (u ∷ r) (op o) (if b then Ok (inside c (behind_op o))
    else if is_followed o then Err BadToken else Ok (item_added c (Instruction o) (Code 0))))
    (λ takes. (
      op o,
      u ∷ r,
      refl,
      record { no_node = refl; brackets = rd.brackets; part = rd.part; last = takes },
    ))
    (λ none. on_test (is_followed o) (λ b. HasShape (inside c between) (u ∷ r) (op o)
    (if b then Err BadToken else Ok (item_added c (Instruction o) (Code 0))))
    (λ h f. part_kind c (Code 0) u (op o) r BadToken e rd (rw h refl))
    (λ h. one_shaped c (op o) (Instruction o) (Code 0) u r rd refl refl
    (code_data c u r 0 rd e) none))
first_shaped c (Code zero) u (number n) r e w rd =
    one_shaped c (number n) (Literal n) (Code 0) u r rd refl refl (code_data c u r 0 rd e) refl
first_shaped c (Code zero) u align r e w rd =
    one_shaped c align Align (Code 0) u r rd refl refl (code_data c u r 0 rd e) refl
first_shaped c (Code zero) u data_part r e w rd =
    one_shaped c data_part Data Behind u r rd refl refl refl refl
first_shaped c (Code zero) u open_mark r e w rd =
    (open_mark, u ∷ r, refl, record { no_node = refl; brackets = refl; part = rd.part; last = tt })
first_shaped c (Code zero) u t r e w rd = λ f. part_kind c (Code 0) u t r BadToken e rd refl

between_shaped : (c : Inside) (u t : Token) (r : List Token) → Read c between u r
    → HasShape (inside c between) (u ∷ r) t (take_between c t)
between_shaped c u (bad k) r rd = λ f. item_kind c u (bad k) r rd
between_shaped c u end r rd =
    on_test c.before.has_word (λ b. HasShape (inside c between) (u ∷ r) end
    (if b then Ok (finished (sections_closed c)) else Err Empty))
    (λ e. tt) (λ e f. item_kind c u end r rd)
between_shaped c u node r rd =
    on_test c.before.has_word (λ b. HasShape (inside c between) (u ∷ r) node
    (if b then Ok (naming (sections_closed c) (c.seen ++ c.name ∷ [])) else Err Empty))
    (λ e. (u ∷ r, refl, rd.brackets)) (λ e f. item_kind c u node r rd)
between_shaped c u (label s) r rd = label_shaped c s u r rd
between_shaped c u t r rd = first_shaped c c.before.part u t r refl tt rd

nothing_shaped : (t : Token) → HasShape nothing [] t (take nothing t)
unfolding kind_at
nothing_shaped node = ([], refl, refl)
nothing_shaped t = λ f. refl

naming_shaped : (done : List Section) (seen : List ℕ) (t : Token) (r : List Token)
    → in_brackets r ≡ false → HasShape (naming done seen) (node ∷ r) t (take (naming done seen) t)
unfolding kind_at
naming_shaped done seen (node_name n) r b =
    on_test (is_named n seen)
    (λ b. HasShape (naming done seen) (node ∷ r) (node_name n) (if b then Err DuplicateNode else Ok
    (inside (record { done = done; seen = seen; name = n; items = []; before = start }) between)))
    (λ e f. refl) (λ e. (
      node_name n,
      node ∷ r,
      refl,
      record { no_node = refl; brackets = b; part = refl; last = refl },
    ))
naming_shaped done seen t r b = λ f. refl

-- the answer to each token: the kind of the fault, or the tokens as the next state has them
pub shaped : (s : State) (back : List Token) (t : Token) → Good s → Shape s back
    → HasShape s back t (take s t)
shaped nothing back t g h =
    subst (λ x. HasShape nothing x t (take nothing t)) (sym h) (nothing_shaped t)
shaped (naming done seen) back t g (r, e, b) =
    subst (λ x. HasShape (naming done seen) x t (take (naming done seen) t)) (sym e)
    (naming_shaped done seen t r b)
shaped (inside c between) back t g (u, r, e, rd) =
    subst (λ x. HasShape (inside c between) x t (take (inside c between) t)) (sym e)
    (between_shaped c u t r rd)
shaped (inside c (behind_op o)) back t g (u, r, e, rd) =
    subst (λ x. HasShape (inside c (behind_op o)) x t (take (inside c (behind_op o)) t)) (sym e)
    (op_shaped c o u t r g rd)
shaped (inside c behind_comma) back t g (u, r, e, rd) =
    subst (λ x. HasShape (inside c behind_comma) x t (take (inside c behind_comma) t)) (sym e)
    (comma_shaped c u t r g rd)
shaped (inside c (in_word ops)) back t g (u, r, e, rd) =
    subst (λ x. HasShape (inside c (in_word ops)) x t (take (inside c (in_word ops)) t)) (sym e)
    (word_shaped c ops u t r g rd)
shaped (inside c (behind_dest_op ops o)) back t g (u, r, e, rd) =
    subst (λ x. HasShape (inside c (behind_dest_op ops o)) x t
    (take (inside c (behind_dest_op ops o)) t)) (sym e) (field_shaped c ops o u t r g rd)
shaped (inside c (behind_dest ops o v)) back t g (u, r, e, rd) =
    subst (λ x. HasShape (inside c (behind_dest ops o v)) x t
    (take (inside c (behind_dest ops o v)) t)) (sym e) (dest_shaped c ops o v u t r g rd)
shaped (inside c (behind_slash ops o v)) back t g (u, r, e, rd) =
    subst (λ x. HasShape (inside c (behind_slash ops o v)) x t
    (take (inside c (behind_slash ops o v)) t)) (sym e) (slash_shaped c ops o v u t r rd)
shaped (inside c (behind_spare ops o v k)) back t g (u, r, e, rd) =
    subst (λ x. HasShape (inside c (behind_spare ops o v k)) x t
    (take (inside c (behind_spare ops o v k)) t)) (sym e) (spare_shaped c ops o v k u t r g rd)
shaped (finished q) back t g h = λ f. absurd (cc)
