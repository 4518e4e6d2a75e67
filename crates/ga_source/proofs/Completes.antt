-- What tokens lead from a state of the parser to a program.
use Rattle.std.proofs.Common.{◌≡◌, ◌⊎◌, inl, inr, ℕ, true, List, [], ◌∷◌, ◌++◌, Option, Some, refl, sym, ap, ◌∙◌, subst, append_assoc, append-nil}
use Rattle.ga_word.specs.declared.op.Op.{Op}
use Rattle.ga_pack.specs.Model.Token.{Token, op, number, label, node, node_name, align, data_part, open_mark, close_mark, comma, end}
use Rattle.ga_pack.specs.Model.Source.{Value, Item, Instruction, Transfer, Literal, Here, Align, Word, WordTo, Plain, Data, Section, Part, after, part_after, is_item, is_new, Items, Sections, Source, text_tokens, items_tokens, item_tokens, op_tokens, value_token, spare_tokens}
use Rattle.ga_source.specs.inner.Machine.{At, between, behind_op, behind_comma, in_word, behind_dest_op, behind_dest, behind_slash, behind_spare, Inside, State, nothing, naming, inside, finished, sections_closed}

-- the open section goes on with these tokens, to the text's end
abbrev pub Follows : Inside → List Token → List Section → Type 0
Follows c ts p =
    (is : List Item) × (ss : List Section) × (ts ≡ items_tokens is (text_tokens ss))
    × Items c.before is × Sections (c.seen ++ c.name ∷ []) ss
    × (p ≡ c.done ++ record { name = c.name; items = c.items ++ is } ∷ ss)

abbrev pub with_item : Inside → Item → Part → Inside
with_item c i q = record {
  done = c.done;
  seen = c.seen;
  name = c.name;
  items = c.items ++ i ∷ [];
  before = after c.before i q;
}

-- the item is allowed next, and these tokens follow it
abbrev pub Adds : Inside → Item → List Token → List Section → Type 0
Adds c i ts p =
    (q : Part) × (is_item i ≡ true) × (is_new i c.before.labels ≡ true)
    × (part_after c.before.part i ≡ Some q) × Follows (with_item c i q) ts p

-- the rest of an item that has started, and which item it then is
abbrev pub Rest : At → List Token → List Token → Item → Type 0
Rest between ts more i = ⊥
Rest (behind_op o) ts more i = (v : Value) × (ts ≡ value_token v ∷ more) × (i ≡ Transfer o v)
Rest behind_comma ts more i = (v : Value) × (ts ≡ value_token v ∷ more) × (i ≡ Plain v)
Rest (in_word ops) ts more i =
    ((later : List Op) × (ts ≡ op_tokens later (close_mark ∷ more)) × (i ≡ Word (ops ++ later)))
    ⊎ ((later : List Op) × (o : Op) × (v : Value) × (spare : Option ℕ) × (ts ≡ op_tokens later
    (op o ∷ value_token v ∷ spare_tokens spare more)) × (i ≡ WordTo (ops ++ later) o v spare))
Rest (behind_dest_op ops o) ts more i =
    (v : Value) × (spare : Option ℕ) × (ts ≡ value_token v ∷ spare_tokens spare more)
    × (i ≡ WordTo ops o v spare)
Rest (behind_dest ops o v) ts more i =
    (spare : Option ℕ) × (ts ≡ spare_tokens spare more) × (i ≡ WordTo ops o v spare)
Rest (behind_slash ops o v) ts more i =
    (k : ℕ) × (ts ≡ number k ∷ close_mark ∷ more) × (i ≡ WordTo ops o v (Some k))
Rest (behind_spare ops o v k) ts more i = (ts ≡ close_mark ∷ more) × (i ≡ WordTo ops o v (Some k))

-- these tokens lead from the state to the program
abbrev pub Completes : State → List Token → List Section → Type 0
Completes nothing ts p = Source ts p
Completes (naming done seen) ts p =
    (s : Section) × (ss : List Section)
    × (ts ≡ node_name s.name ∷ items_tokens s.items (text_tokens ss)) × Sections seen (s ∷ ss)
    × (p ≡ done ++ s ∷ ss)
Completes (inside c between) ts p = Follows c ts p
Completes (inside c at) ts p =
    (i : Item) × (more : List Token) × Rest at ts more i × Adds c i more p
Completes (finished q) ts p = (ts ≡ []) × (p ≡ q)

-- ---- the first token of what follows determines what it is

abbrev pub Leads : Inside → List Section → List Token → Type 0
Leads c p [] = ⊥
Leads c p (op o ∷ rest) =
    Adds c (Instruction o) rest p
    ⊎ ((i : Item) × (more : List Token) × Rest (behind_op o) rest more i × Adds c i more p)
Leads c p (number n ∷ rest) = Adds c (Literal n) rest p
Leads c p (label s ∷ rest) = Adds c (Here s) rest p
Leads c p (align ∷ rest) = Adds c Align rest p
Leads c p (data_part ∷ rest) = Adds c Data rest p
Leads c p (comma ∷ rest) =
    (i : Item) × (more : List Token) × Rest behind_comma rest more i × Adds c i more p
Leads c p (open_mark ∷ rest) =
    (i : Item) × (more : List Token) × Rest (in_word []) rest more i × Adds c i more p
Leads c p (end ∷ rest) = (c.before.has_word ≡ true) × (rest ≡ []) × (p ≡ sections_closed c)
Leads c p (node ∷ rest) =
    (c.before.has_word ≡ true)
    × Completes (naming (sections_closed c) (c.seen ++ c.name ∷ [])) rest p
Leads c p (_ ∷ rest) = ⊥

-- one item more
grown : (c : Inside) (i : Item) (is : List Item) (ss : List Section) (p : List Section)
    → p ≡ c.done ++ record { name = c.name; items = c.items ++ i ∷ is } ∷ ss
    → p ≡ c.done ++ record { name = c.name; items = (c.items ++ i ∷ []) ++ is } ∷ ss
grown c i is ss p e = simp append_assoc e

shrunk : (c : Inside) (i : Item) (is : List Item) (ss : List Section) (p : List Section)
    → p ≡ c.done ++ record { name = c.name; items = (c.items ++ i ∷ []) ++ is } ∷ ss
    → p ≡ c.done ++ record { name = c.name; items = c.items ++ i ∷ is } ∷ ss
shrunk c i is ss p e = simp append_assoc at e

adds : (c : Inside) (i : Item) (is : List Item) (ss : List Section) (p : List Section)
    → Items c.before (i ∷ is) → Sections (c.seen ++ c.name ∷ []) ss
    → p ≡ c.done ++ record { name = c.name; items = c.items ++ i ∷ is } ∷ ss
    → Adds c i (items_tokens is (text_tokens ss)) p
unfolding Items
adds c i is ss p ok more e =
    (ok.0, ok.1, ok.2, ok.3, (is, ss, refl, ok.4, more, grown c i is ss p e))

pub adds_follows : (c : Inside) (i : Item) (ts : List Token) (p : List Section) → Adds c i ts p
    → Follows c (item_tokens i ts) p
unfolding Items
adds_follows c i ts p (q, a, b, d, (is, ss, e, ok, more, pe)) =
    (i ∷ is, ss, ap (item_tokens i) e, (q, a, b, d, ok), more, shrunk c i is ss p pe)

led_items : (c : Inside) (is : List Item) (ss : List Section) (p : List Section) → Items c.before is
    → Sections (c.seen ++ c.name ∷ []) ss
    → p ≡ c.done ++ record { name = c.name; items = c.items ++ is } ∷ ss
    → Leads c p (items_tokens is (text_tokens ss))
unfolding Items Sections
led_items c [] [] p ok more e = (ok, refl, simp (append-nil {A = Item}) at e)
led_items c [] (s ∷ ss) p ok more e =
    (ok, (s, ss, refl, more, simp append_assoc (simp (append-nil {A = Item}) at e)))
led_items c (Instruction o ∷ is) ss p ok more e = inl (adds c (Instruction o) is ss p ok more e)
led_items c (Transfer o v ∷ is) ss p ok more e =
    inr (
      Transfer o v,
      items_tokens is (text_tokens ss),
      (v, refl, refl),
      adds c (Transfer o v) is ss p ok more e,
    )
led_items c (Literal n ∷ is) ss p ok more e = adds c (Literal n) is ss p ok more e
led_items c (Here s ∷ is) ss p ok more e = adds c (Here s) is ss p ok more e
led_items c (Align ∷ is) ss p ok more e = adds c Align is ss p ok more e
led_items c (Word ops ∷ is) ss p ok more e = (
  Word ops,
  items_tokens is (text_tokens ss),
  inl (ops, refl, refl),
  adds c (Word ops) is ss p ok more e,
)
led_items c (WordTo ops o v k ∷ is) ss p ok more e = (
  WordTo ops o v k,
  items_tokens is (text_tokens ss),
  inr (ops, o, v, k, refl, refl),
  adds c (WordTo ops o v k) is ss p ok more e,
)
led_items c (Plain v ∷ is) ss p ok more e =
    (Plain v, items_tokens is (text_tokens ss), (v, refl, refl), adds c (Plain v) is ss p ok more e)
led_items c (Data ∷ is) ss p ok more e = adds c Data is ss p ok more e

pub led : (c : Inside) (ts : List Token) (p : List Section) → Follows c ts p → Leads c p ts
led c ts p (is, ss, e, ok, more, pe) =
    subst (λ x. Leads c p x) (sym e) (led_items c is ss p ok more pe)

-- and back
rest_follows : (c : Inside) (at : At) (ts more : List Token) (i : Item) (p : List Section)
    (t : Token) → ((more : List Token) (i : Item) → Rest at ts more i → item_tokens i more ≡ t ∷ ts)
    → Rest at ts more i → Adds c i more p → Follows c (t ∷ ts) p
rest_follows c at ts more i p t first r a =
    subst (λ x. Follows c x p) (first more i r) (adds_follows c i more p a)

pub led_back : (c : Inside) (ts : List Token) (p : List Section) → Leads c p ts → Follows c ts p
unfolding Items Sections
led_back c (op o ∷ rest) p (inl a) = adds_follows c (Instruction o) rest p a
led_back c (op o ∷ rest) p (inr (i, more, (v, e, f), a)) =
    rest_follows c (behind_op o) rest more i p (op o) (λ more i (v, e, f). cc) (v, e, f) a
led_back c (number n ∷ rest) p a = adds_follows c (Literal n) rest p a
led_back c (label s ∷ rest) p a = adds_follows c (Here s) rest p a
led_back c (align ∷ rest) p a = adds_follows c Align rest p a
led_back c (data_part ∷ rest) p a = adds_follows c Data rest p a
led_back c (comma ∷ rest) p (i, more, (v, e, f), a) =
    rest_follows c behind_comma rest more i p comma (λ more i (v, e, f). cc) (v, e, f) a
led_back c (open_mark ∷ rest) p (i, more, inl (later, e, f), a) =
    subst (λ x. Follows c x p) (ap (λ j. item_tokens j more) f ∙ ap (λ x. open_mark ∷ x) (sym e))
    (adds_follows c i more p a)
led_back c (open_mark ∷ rest) p (i, more, inr (later, o, v, k, e, f), a) =
    subst (λ x. Follows c x p) (ap (λ j. item_tokens j more) f ∙ ap (λ x. open_mark ∷ x) (sym e))
    (adds_follows c i more p a)
led_back c (end ∷ rest) p (w, e, pe) =
    ([], [], ap (λ x. end ∷ x) e, w, tt, simp (append-nil {A = Item}) pe)
led_back c (node ∷ rest) p (w, (s, ss, e, more, pe)) = (
  [],
  s ∷ ss,
  ap (λ x. node ∷ x) e,
  w,
  more,
  simp (append-nil {A = Item}) (simp append_assoc at pe),
)
led_back c _ p h = absurd h
