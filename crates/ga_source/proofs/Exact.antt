-- The parser accepts exactly the texts, and refuses at the first token that no text goes on with.
use Rattle.std.proofs.Common.{◌≡◌, ◌⊎◌, inl, inr, ⊎_elim, ℕ, zero, suc, Bool, true, false, List, [], ◌∷◌, ◌++◌, length, Option, Some, None, Ok, Err, refl, sym, ap, ◌∙◌, subst, append_assoc, append-nil, arith}
use Rattle.std.proofs.lemmas.Bool.{and_from, both_ways, lt-ltb}
use Rattle.std.proofs.Math.Bool.{or-true}
use Rattle.ga_pack.specs.Model.Token.{meanings, meaning_at, meaning_of, Token, op, number, node, node_name, data_part, close_mark, comma, end, is_node}
use Rattle.std.specs.Prelude.{codes, ◌==◌, ◌||◌, ◌^◌, nat_lt, if◌then◌else◌}
use Rattle.ga_word.specs.declared.op.Op.{Op}
use Rattle.ga_word.specs.declared.op.Op.TheVariants.{Nop}
use Rattle.ga_word.specs.Op.{takes_dest}
use Rattle.ga_pack.specs.Followers.{followers}
use Rattle.ga_pack.specs.Model.Source.{Value, Number, Item, Transfer, Word, WordTo, Plain, Data, Section, Part, Code, Behind, Before, start, part_after, is_item, is_new, Items, Sections, Source, items_tokens, stand_from, is_below, is_spare}
use Rattle.ga_pack.specs.Model.SourceFault.{GoesOn, ends_in_node}
use Rattle.ga_pack.specs.Slots.{dest_bound, spare_bound}
use Rattle.ga_source.specs.inner.Machine.{At, between, behind_op, behind_comma, in_word, behind_dest_op, behind_dest, behind_slash, behind_spare, Inside, State, nothing, naming, inside, finished, sections_closed, take, Good}
use Rattle.ga_source.proofs.Completes.{Follows, Adds, Rest, Completes, with_item, led, led_back}
use Rattle.ga_source.proofs.FaultKinds.{Shape}
use Rattle.ga_source.proofs.Steps.{Right, take_right, is_word, is_word_to}
use Rattle.ga_pack.proofs.ByCases.{on_test}
use Rattle.ga_pack.specs.declared.error_kind.SourceErrorKind.{SourceErrorKind}
use Rattle.ga_pack.specs.declared.error_kind.SourceErrorKind.TheVariants.{Empty}

-- ---- each state but `naming` has a completion

-- some texts complete it, at any place
abbrev Alive : State → Type 0
Alive s =
    (texts : List (List ℕ)) × (p : List Section) × ((b : Bool) → Completes s (meanings b texts) p)

-- one text, and more
first_is : (b : Bool) (t : List ℕ) (ts : List (List ℕ)) (u : Token) → meaning_at b t ≡ u
    → is_node u ≡ false → meanings b (t ∷ ts) ≡ u ∷ meanings false ts
unfolding meanings
first_is b t ts u e n =
    ap (λ x. meaning_at b t ∷ meanings x ts) (ap is_node e ∙ n) ∙ ap (λ x. x ∷ meanings false ts) e

-- what these texts are, at any place
record Spellings (b : Bool) : Type 0 where
  zero_is : meaning_at b (codes "0") ≡ number 0
  close_is : meaning_at b (codes "]") ≡ close_mark
  nop_is : meaning_at b (codes ".") ≡ op Nop
  comma_is : meaning_at b (codes ",") ≡ comma
  data_is : meaning_at b (codes "data") ≡ data_part
  node_is : meaning_at b (codes "node") ≡ node

spelled : (b : Bool) → Spellings b
unfolding meaning_at meaning_of
spelled true = record {
  zero_is = refl;
  close_is = refl;
  nop_is = refl;
  comma_is = refl;
  data_is = refl;
  node_is = refl;
}
spelled false = record {
  zero_is = refl;
  close_is = refl;
  nop_is = refl;
  comma_is = refl;
  data_is = refl;
  node_is = refl;
}

-- from any part a word of data can be reached
last_items : Part → List Item
last_items Behind = Plain (Number 0) ∷ []
last_items (Code n) = Data ∷ Plain (Number 0) ∷ []

last_texts : Part → List (List ℕ)
last_texts Behind = codes "," ∷ codes "0" ∷ []
last_texts (Code n) = codes "data" ∷ codes "," ∷ codes "0" ∷ []

last_tokens : (b : Bool) (part : Part)
    → meanings b (last_texts part) ≡ items_tokens (last_items part) (end ∷ [])
unfolding meanings last_texts last_items
last_tokens b Behind =
    first_is b (codes ",") (codes "0" ∷ []) comma (spelled b).comma_is refl
    ∙ ap (λ x. comma ∷ x) (first_is false (codes "0") [] (number 0) (spelled false).zero_is refl)
last_tokens b (Code n) =
    first_is b (codes "data") (codes "," ∷ codes "0" ∷ []) data_part (spelled b).data_is refl
    ∙ ap (λ x. data_part ∷ x)
    (first_is false (codes ",") (codes "0" ∷ []) comma (spelled false).comma_is refl
    ∙ ap (λ x. comma ∷ x) (first_is false (codes "0") [] (number 0) (spelled false).zero_is refl))

last_right : (part : Part) (b : Before) → b.part ≡ part → Items b (last_items part)
unfolding Items is_item part_after last_items
last_right Behind b e =
    (Behind, refl, refl, ap (λ x. part_after x (Plain (Number 0))) e, or-true b.has_word)
last_right (Code (suc n)) b e = (
  Behind,
  refl,
  refl,
  ap (λ x. part_after x Data) e,
  (Behind, refl, refl, refl, or-true (b.has_word || false)),
)
last_right (Code zero) b e = (
  Behind,
  refl,
  refl,
  ap (λ x. part_after x Data) e,
  (Behind, refl, refl, refl, or-true (b.has_word || false)),
)

between_alive : (c : Inside) → Alive (inside c between)
unfolding Sections
between_alive c = (
  last_texts c.before.part,
  c.done ++ record { name = c.name; items = c.items ++ last_items c.before.part } ∷ [],
  λ b. (
    last_items c.before.part,
    [],
    last_tokens b c.before.part,
    last_right c.before.part c.before refl,
    tt,
    refl,
  ),
)

-- an item that ends the one that has started
item_alive : (c : Inside) (at : At) (i : Item) (q : Part) → is_item i ≡ true
    → is_new i c.before.labels ≡ true → part_after c.before.part i ≡ Some q → ((ys : List (List ℕ))
    → (ts : List (List ℕ)) × ((b : Bool) → Rest at (meanings b ts) (meanings false ys) i))
    → (ts : List (List ℕ)) × (p : List Section) × ((b : Bool)
    → (j : Item) × (more : List Token) × Rest at (meanings b ts) more j × Adds c j more p)
item_alive c at i q a b e rest =
    let l = between_alive (with_item c i q) in
    let r = rest l.0 in
    (r.0, l.1, λ x. (i, meanings false l.0, r.1 x, (q, a, b, e, l.2 false)))

zero_close : (b : Bool) (ys : List (List ℕ))
    → meanings b (codes "0" ∷ codes "]" ∷ ys) ≡ number 0 ∷ close_mark ∷ meanings false ys
zero_close b ys =
    first_is b (codes "0") (codes "]" ∷ ys) (number 0) (spelled b).zero_is refl ∙ ap
    (λ x. number 0 ∷ x) (first_is false (codes "]") ys close_mark (spelled false).close_is refl)

bound_above : (n : ℕ) → is_below (dest_bound n) (Number 0) ≡ true
bound_above n =
    on_test (n == 0) (λ b. nat_lt 0 (if b then 2 ^ 10 else if n == 1 then 2 ^ 8 else 2 ^ 3) ≡ true)
    (λ e. refl) (λ e.
    on_test (n == 1) (λ b. nat_lt 0 (if b then 2 ^ 8 else 2 ^ 3) ≡ true) (λ e. refl) (λ e. refl))

alive_op : (c : Inside) (o : Op) → Good (inside c (behind_op o)) → Alive (inside c (behind_op o))
unfolding is_item part_after
alive_op c o g =
    item_alive c (behind_op o) (Transfer o (Number 0)) (Code 0) (and_from (takes_dest o) true g.0
    refl) refl (ap (λ x. part_after x (Transfer o (Number 0))) g.1) (λ ys. (
      codes "0" ∷ ys,
      λ b. (Number 0, first_is b (codes "0") ys (number 0) (spelled b).zero_is refl, refl),
    ))

alive_comma : (c : Inside) → Good (inside c behind_comma) → Alive (inside c behind_comma)
unfolding is_item
alive_comma c g =
    item_alive c behind_comma (Plain (Number 0)) g.0 refl refl (g.1 (Number 0)) (λ ys. (
      codes "0" ∷ ys,
      λ b. (Number 0, first_is b (codes "0") ys (number 0) (spelled b).zero_is refl, refl),
    ))

alive_word : (c : Inside) (ops : List Op) → Good (inside c (in_word ops))
    → Alive (inside c (in_word ops))
unfolding is_item part_after
alive_word c [] g =
    item_alive c (in_word []) (Word (Nop ∷ [])) (Code 0) refl refl
    (ap (λ x. part_after x (Word (Nop ∷ []))) g.1) (λ ys. (
      codes "." ∷ codes "]" ∷ ys,
      λ b. inl (
        Nop ∷ [],
        first_is b (codes ".") (codes "]" ∷ ys) (op Nop) (spelled b).nop_is refl ∙ ap (λ x. op Nop
            ∷ x) (first_is false (codes "]") ys close_mark (spelled false).close_is refl),
        refl,
      ),
    ))
alive_word c (o ∷ ops) g =
    item_alive c (in_word (o ∷ ops)) (Word (o ∷ ops)) (Code (followers (o ∷ ops)))
    (is_word (o ∷ ops) (lt-ltb 0 (length (o ∷ ops)) (omega arith)) g.0) refl
    (ap (λ x. part_after x (Word (o ∷ ops))) g.1) (λ ys. (
      codes "]" ∷ ys,
      λ b. inl (
        [],
        first_is b (codes "]") ys close_mark (spelled b).close_is refl,
        ap Word (sym (append-nil (o ∷ ops))),
      ),
    ))

word_to_alive : (c : Inside) (at : At) (ops : List Op) (o : Op) (v : Value) (k : Option ℕ)
    → stand_from 0 ops ≡ true → nat_lt (length ops) 3 ≡ true → takes_dest o ≡ true
    → is_below (dest_bound (length ops)) v ≡ true → is_spare (length ops) k ≡ true
    → c.before.part ≡ Code 0 → ((ys : List (List ℕ)) → (ts : List (List ℕ))
    × ((b : Bool) → Rest at (meanings b ts) (meanings false ys) (WordTo ops o v k)))
    → (ts : List (List ℕ)) × (p : List Section) × ((b : Bool)
    → (j : Item) × (more : List Token) × Rest at (meanings b ts) more j × Adds c j more p)
unfolding part_after
word_to_alive c at ops o v k a b d e f part rest =
    item_alive c at (WordTo ops o v k) (Code (followers ops))
    (is_word_to ops o v k (record { stands = a; short = b; dest = d; below = e; spare = f })) refl
    (ap (λ x. part_after x (WordTo ops o v k)) part) rest

-- a text that is whole, or the state is alive, or it waits for a name
abbrev Goes : State → Type 0
Goes s =
    ((p : List Section) × (s ≡ finished p))
    ⊎ (Alive s ⊎ ((done : List Section) × (seen : List ℕ) × (s ≡ naming done seen)))

-- a first section
name_is : meaning_at true (codes "000") ≡ node_name 0
unfolding meaning_at meaning_of
name_is = refl

first_texts : List (List ℕ)
first_texts = codes "000" ∷ last_texts (Code 0)

first_tokens : meanings true first_texts ≡ node_name 0
    ∷ items_tokens (last_items (Code 0)) (end ∷ [])
unfolding first_texts
first_tokens =
    first_is true (codes "000") (last_texts (Code 0)) (node_name 0) name_is refl
    ∙ ap (λ x. node_name 0 ∷ x) (last_tokens false (Code 0))

nothing_tokens : (b : Bool) → meanings b (codes "node" ∷ first_texts) ≡ node ∷ node_name 0
    ∷ items_tokens (last_items (Code 0)) (end ∷ [])
unfolding meanings
nothing_tokens b =
    ap (λ x. x ∷ meanings (is_node x) first_texts) (spelled b).node_is
    ∙ ap (λ x. node ∷ x) first_tokens

alive : (s : State) → Good s → Goes s
unfolding Sections Source
alive nothing g =
    inr (inl (
      codes "node" ∷ first_texts,
      record { name = 0; items = last_items (Code 0) } ∷ [],
      λ b. (nothing_tokens b, (refl, last_right (Code 0) start refl, tt)),
    ))
alive (naming done seen) g = inr (inr (done, seen, refl))
alive (inside c between) g = inr (inl (between_alive c))
alive (inside c (behind_op o)) g = inr (inl (alive_op c o g))
alive (inside c behind_comma) g = inr (inl (alive_comma c g))
alive (inside c (in_word ops)) g = inr (inl (alive_word c ops g))
alive (inside c (behind_dest_op ops o)) g =
    inr (inl (word_to_alive c (behind_dest_op ops o) ops o (Number 0) None g.0 g.1 g.2
    (bound_above (length ops)) refl g.3
    (λ ys. (codes "0" ∷ codes "]" ∷ ys, λ b. (Number 0, None, zero_close b ys, refl)))))
alive (inside c (behind_dest ops o v)) g =
    inr (inl (word_to_alive c (behind_dest ops o v) ops o v None g.0 g.1 g.2 g.3 refl g.4 (λ ys. (
      codes "]" ∷ ys,
      λ b. (None, first_is b (codes "]") ys close_mark (spelled b).close_is refl, refl),
    ))))
alive (inside c (behind_slash ops o v)) g =
    inr (inl (word_to_alive c (behind_slash ops o v) ops o v (Some 0) g.0 g.1 g.2 g.3
    (and_from (length ops == 0) true g.4 refl) g.5
    (λ ys. (codes "0" ∷ codes "]" ∷ ys, λ b. (0, zero_close b ys, refl)))))
alive (inside c (behind_spare ops o v k)) g =
    inr (inl (word_to_alive c (behind_spare ops o v k) ops o v (Some k) g.0 g.1 g.2 g.3
    (and_from (length ops == 0) (nat_lt k (spare_bound 0)) g.4 g.5) g.6 (λ ys.
    (codes "]" ∷ ys, λ b. (first_is b (codes "]") ys close_mark (spelled b).close_is refl, refl)))))
alive (finished q) g = inl (q, refl)

-- ---- where `node` is refused the end is refused

-- what comes before the name of a section: nothing, or a whole text
node_led : (s s' : State) → Good s → take s node ≡ Ok s'
    → ((s ≡ nothing) × (s' ≡ naming [] [])) ⊎ ((p : List Section) × Completes s (end ∷ []) p)
node_led nothing s' g e = inl (refl, (cc))
node_led (inside c between) s' g e =
    inr (on_test c.before.has_word
    (λ b. (if b then Ok (naming (sections_closed c) (c.seen ++ c.name ∷ [])) else Err Empty) ≡ Ok s'
    → (p : List Section) × Follows c (end ∷ []) p)
    (λ some h. (sections_closed c, led_back c (end ∷ []) (sections_closed c) (some, refl, refl)))
    (λ none h. absurd (cc)) e)
node_led _ s' g e = absurd (cc)

-- if `node` is refused no text ends
node_refused : (s : State) (k : SourceErrorKind) → Good s → take s node ≡ Err k → (p : List Section)
    → Completes s (end ∷ []) p → ⊥
node_refused nothing k g e p h = absurd (cc)
node_refused (inside c between) k g e p h =
    on_test c.before.has_word (λ b.
    (if b then Ok (naming (sections_closed c) (c.seen ++ c.name ∷ [])) else Err Empty) ≡ Err k → ⊥)
    (λ some f. absurd (cc)) (λ none f. both_ways c.before.has_word none (led c (end ∷ []) p h).0) e
node_refused s k g e p h = take_right s end g [] p h

-- ---- the parser behind the front of a text

-- A state represents the tokens that were read: they can be completed, and what completes the state
-- completes them to a text.
pub record Stands (front : List Token) (s : State) : Type 0 where
  pub good : Good s
  pub goes : GoesOn front
  pub to : (rest : List Token) (p : List Section) → Source (front ++ rest) p → Completes s rest p
  pub from : (rest : List Token) (p : List Section) → Completes s rest p → Source (front ++ rest) p

goes_first : Goes nothing → GoesOn []
unfolding GoesOn
goes_first (inl (p, e)) = absurd (cc)
goes_first (inr (inl (ts, p, h))) = inl (inr (ts, p, h false))
goes_first (inr (inr (done, seen, e))) = absurd (cc)

pub stands_first : Stands [] nothing
unfolding GoesOn
stands_first = record
    { good = tt; goes = goes_first (alive nothing tt); to = λ rest p h. h; from = λ rest p h. h }

pub regroup : (front : List Token) (t : Token) (rest : List Token)
    → (front ++ t ∷ []) ++ rest ≡ front ++ t ∷ rest
regroup front t rest = simp append_assoc

begins : (front : List Token) (s : State)
    → ((rest : List Token) (p : List Section) → Completes s rest p → Source (front ++ rest) p)
    → Alive s → GoesOn front
unfolding GoesOn
begins front s from (texts, p, h) =
    inl (inr (texts, p, from (meanings (ends_in_node front) texts) p (h (ends_in_node front))))

node_last : (front : List Token) → ends_in_node (front ++ node ∷ []) ≡ true
node_last [] = refl
node_last (t ∷ []) = refl
node_last (t ∷ u ∷ ts) = node_last (u ∷ ts)

named_goes : (front : List Token) (s : State) (done : List Section) (seen : List ℕ) → Stands front s
    → take s node ≡ Ok (naming done seen) → ((rest : List Token) (p : List Section)
    → Completes (naming done seen) rest p → Source ((front ++ node ∷ []) ++ rest) p)
    → GoesOn (front ++ node ∷ [])
unfolding GoesOn Sections
named_goes front s done seen st e from = ⊎_elim
    (λ (a, b). inl (inr (
      first_texts,
      [] ++ record { name = 0; items = last_items (Code 0) } ∷ [],
      subst (λ x. Source ((front ++ node ∷ []) ++ meanings x first_texts)
          ([] ++ record { name = 0; items = last_items (Code 0) } ∷ [])) (sym (node_last front))
          (from (meanings true first_texts) ([] ++ record { name = 0; items = last_items (Code 0) }
          ∷ []) (subst (λ x. Completes x (meanings true first_texts)
          ([] ++ record { name = 0; items = last_items (Code 0) } ∷ [])) (sym b) (
            record { name = 0; items = last_items (Code 0) },
            [],
            first_tokens,
            (refl, last_right (Code 0) start refl, tt),
            refl,
          ))),
    )))
    (λ (p, h). inr (front, p, refl, st.from (end ∷ []) p h))
    (node_led s (naming done seen) st.good e)

whole_goes : (ts : List Token) (p : List Section) → Source ts p → GoesOn ts
unfolding GoesOn
whole_goes ts p h = inl (inl (p, h))

-- The tokens fit the state's shape: so only `node` leads to a name.
module _ (front back : List Token) (s s' : State) (t : Token) (st : Stands front s)
    (shape : Shape s' (t ∷ back)) (e : take s t ≡ Ok s') where
  right : Right s t (Ok s')
  right = subst (λ x. Right s t x) e (take_right s t st.good)

  from : (rest : List Token) (p : List Section) → Completes s' rest p
      → Source ((front ++ t ∷ []) ++ rest) p
  from rest p h =
      subst (λ x. Source x p) (sym (regroup front t rest)) (st.from (t ∷ rest) p (right.2 rest p h))

  goes : Goes s' → GoesOn (front ++ t ∷ [])
  goes (inl (p, f)) =
      whole_goes (front ++ t ∷ []) p (subst (λ x. Source x p) (append-nil (front ++ t ∷ []))
      (from [] p (subst (λ x. Completes x [] p) (sym f) (refl, refl))))
  goes (inr (inl a)) = begins (front ++ t ∷ []) s' from a
  goes (inr (inr (done, seen, f))) =
      let (r, same, b) = subst (λ x. Shape x (t ∷ back)) f shape in
      let is : t ≡ node = cc in
      let led = subst (λ x. (rest : List Token) (p : List Section) → Completes x rest p
      → Source ((front ++ t ∷ []) ++ rest) p) f from in
      subst (λ u. GoesOn (front ++ u ∷ [])) (sym is)
      (named_goes front s done seen st (ap (take s) (sym is) ∙ e ∙ ap Ok f)
      (subst (λ u. (rest : List Token) (p : List Section) → Completes (naming done seen) rest p
      → Source ((front ++ u ∷ []) ++ rest) p) is led))

  pub stands_next : Stands (front ++ t ∷ []) s'
  stands_next = record {
    good = right.0;
    goes = goes (alive s' right.0);
    to = λ rest p h. right.1 rest p
        (st.to (t ∷ rest) p (subst (λ x. Source x p) (regroup front t rest) h));
    from = from;
  }

-- the two lists end alike
last_same : (xs ys : List Token) (x y : Token) → xs ++ x ∷ [] ≡ ys ++ y ∷ [] → (xs ≡ ys) × (x ≡ y)
last_same [] [] x y e = (refl, cc)
last_same [] (b ∷ []) x y e = absurd (cc)
last_same [] (b ∷ c ∷ ys) x y e = absurd (cc)
last_same (a ∷ []) [] x y e = absurd (cc)
last_same (a ∷ b ∷ xs) [] x y e = absurd (cc)
last_same (a ∷ xs) (b ∷ ys) x y e = let h = last_same xs ys x y (cc) in let h0 = h.0 in ((cc), h.1)

-- if the parser refuses a token, no text goes on with it
pub refused : (front : List Token) (s : State) (t : Token) (k : SourceErrorKind) → Stands front s
    → take s t ≡ Err k → GoesOn (front ++ t ∷ []) → ⊥
unfolding GoesOn
refused front s t k st e (inl (inl (p, h))) =
    let r : Right s t (Err k) = subst (λ x. Right s t x) e (take_right s t st.good) in
    r [] p (st.to (t ∷ []) p h)
refused front s t k st e (inl (inr (texts, p, h))) =
    let r : Right s t (Err k) = subst (λ x. Right s t x) e (take_right s t st.good) in
    let rest = meanings (ends_in_node (front ++ t ∷ [])) texts in
    r rest p (st.to (t ∷ rest) p (subst (λ x. Source x p) (regroup front t rest) h))
refused front s t k st e (inr (text, p, h, src)) =
    let l = last_same front text t node h in
    node_refused s k st.good (ap (λ x. take s x) (sym l.1) ∙ e) p
    (st.to (end ∷ []) p (subst (λ x. Source (x ++ end ∷ []) p) (sym l.0) src))

-- accepted: the program is the text's, and its only one
pub accepted : (ts : List Token) (p : List Section) → Stands ts (finished p)
    → Source ts p × ((q : List Section) → Source ts q → q ≡ p)
accepted ts p st = (
  subst (λ x. Source x p) (append-nil ts) (st.from [] p (refl, refl)),
  λ q h. (st.to [] q (subst (λ x. Source x q) (sym (append-nil ts)) h)).1,
)
