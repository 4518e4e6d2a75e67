-- A text has one first fault at most.
use Rattle.std.proofs.Common.{◌≡◌, ◌∙◌, ◌⊎◌, inl, inr, ℕ, Bool, List, [], ◌∷◌, ◌++◌, Option, Some, None, length, reverse, refl, sym, ap, subst, append_assoc}
use Rattle.ga_word.specs.declared.op.Op.{Op}
use Rattle.ga_pack.specs.Model.Text.{Place, places_of, texts_of}
use Rattle.ga_pack.specs.Model.Token.{Token, close_mark, end, is_node, node, node_name, op, meaning_at, meanings}
use Rattle.ga_pack.specs.Model.Source.{Word, WordTo, Item, Section, Source, item_tokens, items_tokens, op_tokens, spare_tokens, text_tokens, value_token}
use Rattle.ga_pack.specs.Model.SourceFault.{GoesOn, SourceFault, ends_in_node, kind_at}
use Rattle.ga_pack.specs.Model.Program.{IsFault, place_at, tokens_of}
use Rattle.ga_pack.proofs.OneFault.{Cuts, here, nearer, farther, cuts}
use Rattle.ga_pack.proofs.RightTexts.{cut_tokens, no_cut}
use Rattle.ga_pack.specs.declared.error_kind.SourceErrorKind.{SourceErrorKind}

-- ---- a prefix of a text's tokens may go on as its longer prefix does

-- whether the token behind these is behind `node`, if their own start is or not
abbrev behind : Bool → List Token → Bool
behind b [] = b
behind b (t ∷ ts) = ends_in_node (t ∷ ts)

behind_more : (t : Token) (ts : List Token) → behind (is_node t) ts ≡ ends_in_node (t ∷ ts)
behind_more t [] = refl
behind_more t (u ∷ ts) = refl

ends_mid : (front : List Token) (t : Token) (mid : List Token)
    → ends_in_node (front ++ t ∷ mid) ≡ behind (ends_in_node (front ++ t ∷ [])) mid
ends_mid front t [] = refl
ends_mid [] t (u ∷ mid) = refl
ends_mid (f ∷ []) t (u ∷ mid) = refl
ends_mid (f ∷ g ∷ front) t (u ∷ mid) = ends_mid (g ∷ front) t (u ∷ mid)

-- some tokens of a text, and behind them what further tokens are written as
joined : (b : Bool) (texts : List (List ℕ)) (mid : List Token) (x : Token) (rest : List Token)
    (us : List (List ℕ)) → meanings b texts ≡ mid ++ x ∷ rest
    → (vs : List (List ℕ)) × (meanings b vs ≡ mid ++ meanings (behind b mid) us)
unfolding meanings
joined b texts [] x rest us e = (us, refl)
joined b [] (m ∷ mid) x rest us e = absurd (no_cut mid x rest (cc))
joined b (text ∷ texts) (m ∷ mid) x rest us e =
    let same : meaning_at b text ≡ m = cc in
    let more : meanings (is_node (meaning_at b text)) texts ≡ mid ++ x ∷ rest = cc in
    let vs = joined (is_node (meaning_at b text)) texts mid x rest us more in
    let tail : meanings (is_node (meaning_at b text)) vs.0 ≡ mid
    ++ meanings (ends_in_node (m ∷ mid)) us =
    vs.1 ∙ ap (λ (u : Token). mid ++ meanings (behind (is_node u) mid) us) same
    ∙ ap (λ (k : Bool). mid ++ meanings k us) (behind_more m mid) in
    (text ∷ vs.0, (cc))

from_mid : (texts : List (List ℕ)) (front : List Token) (t : Token) (mid : List Token) (x : Token)
    (rest : List Token) (us : List (List ℕ)) (p : List Section)
    → mid ++ x ∷ rest ≡ meanings (ends_in_node (front ++ t ∷ [])) texts
    → Source ((front ++ t ∷ mid) ++ meanings (ends_in_node (front ++ t ∷ mid)) us) p
    → GoesOn (front ++ t ∷ [])
unfolding GoesOn
from_mid texts front t mid x rest us p e source =
    let b = ends_in_node (front ++ t ∷ []) in
    let vs = joined b texts mid x rest us (sym e) in
    let same : (front ++ t ∷ mid) ++ meanings (ends_in_node (front ++ t ∷ mid)) us
    ≡ (front ++ t ∷ []) ++ meanings b vs.0 =
    ap (λ (k : Bool). (front ++ t ∷ mid) ++ meanings k us) (ends_mid front t mid)
    ∙ append_assoc front (t ∷ mid) (meanings (behind b mid) us)
    ∙ ap (λ (l : List Token). front ++ t ∷ l) (sym vs.1)
    ∙ sym (append_assoc front (t ∷ []) (meanings b vs.0)) in
    inl (inr (vs.0, p, subst (λ (l : List Token). Source l p) same source))

-- a list with this last token, cut at a token: that is the last one, or the last one is behind it
abbrev EndsBy : List Token → Token → List Token → Token → List Token → Type 0
EndsBy a last front t mid =
    (mid ≡ []) ⊎ ((mid' : List Token) × (mid ≡ mid' ++ last ∷ []) × (a ≡ front ++ t ∷ mid'))

ends_by : (a : List Token) (last : Token) (front : List Token) (t : Token) (mid : List Token)
    → a ++ last ∷ [] ≡ front ++ t ∷ mid → EndsBy a last front t mid
ends_by [] last [] t mid e = inl (cc)
ends_by [] last (u ∷ front) t mid e = absurd (no_cut front t mid (cc))
ends_by (v ∷ a) last [] t mid e = inr (a, (cc), (cc))
ends_by (v ∷ a) last (u ∷ front) t mid e =
    let more : a ++ last ∷ [] ≡ front ++ t ∷ mid = cc in
    elim (ends_by a last front t mid more) [
      | inl none ↦ inl none
      | inr some ↦ inr (some.0, some.1, (let is : a ≡ front ++ t ∷ some.0 = some.2 in cc))
    ]

op_more : (ops : List Op) (a b : List Token) → op_tokens ops (a ++ b) ≡ op_tokens ops a ++ b
op_more [] a b = refl
op_more (o ∷ ops) a b = let e = op_more ops a b in cc

spare_more : (spare : Option ℕ) (a b : List Token)
    → spare_tokens spare (a ++ b) ≡ spare_tokens spare a ++ b
spare_more None a b = refl
spare_more (Some n) a b = refl

item_more : (i : Item) (a b : List Token) → item_tokens i (a ++ b) ≡ item_tokens i a ++ b
item_more (Word ops) a b = let e = op_more ops (close_mark ∷ a) b in cc
item_more (WordTo ops o v spare) a b =
    let e = op_more ops (op o ∷ value_token v ∷ spare_tokens spare a) b in
    let f = spare_more spare a b in
    cc
item_more _ a b = refl

items_more : (is : List Item) (a b : List Token) → items_tokens is (a ++ b) ≡ items_tokens is a ++ b
items_more [] a b = refl
items_more (i ∷ is) a b = ap (item_tokens i) (items_more is a b) ∙ item_more i (items_tokens is a) b

-- the last token of a text is its end
ends : (ss : List Section) → (a : List Token) × (a ++ end ∷ [] ≡ text_tokens ss)
ends [] = ([], refl)
ends (s ∷ ss) =
    let more = ends ss in (
      node ∷ node_name s.name ∷ items_tokens s.items more.0,
      ap (λ (l : List Token). node ∷ node_name s.name ∷ l)
          (sym (items_more s.items more.0 (end ∷ [])) ∙ ap (items_tokens s.items) more.1),
    )

-- these tokens come before another in a text
module _ (texts : List (List ℕ)) (front : List Token) (t : Token) (mid : List Token) (x : Token)
    (rest : List Token)
    (e : mid ++ x ∷ rest ≡ meanings (ends_in_node (front ++ t ∷ [])) texts) where
  -- of a text that ends with the token behind them
  from_end : (a : List Token) (last : Token) (p : List Section) → EndsBy a last front t mid
      → Source (a ++ end ∷ []) p → GoesOn (front ++ t ∷ mid) → GoesOn (front ++ t ∷ [])
  unfolding meanings
  from_end a last p (inl none) source goes =
      subst (λ (l : List Token). GoesOn (front ++ t ∷ l)) none goes
  from_end a last p (inr (mid', is, cut)) source goes =
      let behind_it : mid' ++ last ∷ x ∷ rest ≡ meanings (ends_in_node (front ++ t ∷ [])) texts =
      sym (append_assoc mid' (last ∷ []) (x ∷ rest))
      ∙ ap (λ (l : List Token). l ++ x ∷ rest) (sym is) ∙ e in
      from_mid texts front t mid' last (x ∷ rest) [] p behind_it
      (subst (λ (l : List Token). Source (l ++ end ∷ []) p) cut source)

  -- of a whole text
  from_whole : (p : List Section) → Source (front ++ t ∷ mid) p → GoesOn (front ++ t ∷ mid)
      → GoesOn (front ++ t ∷ [])
  unfolding Source
  from_whole [] source goes = absurd source
  from_whole (s ∷ ss) source goes =
      let all = ends (s ∷ ss) in
      let same : all.0 ++ end ∷ [] ≡ front ++ t ∷ mid = all.1 ∙ sym source.0 in
      from_end all.0 end (s ∷ ss) (ends_by all.0 end front t mid same) (all.1, source.1) goes

  front_goes : GoesOn (front ++ t ∷ mid) → GoesOn (front ++ t ∷ [])
  unfolding GoesOn
  front_goes (inl (inl (p, source))) = from_whole p source (inl (inl (p, source)))
  front_goes (inl (inr (us, p, source))) = from_mid texts front t mid x rest us p e source
  front_goes (inr (text, p, is, source)) =
      from_end text node p (ends_by text node front t mid (sym is)) source
      (inr (text, p, is, source))

-- ---- one fault

-- a fault doesn't come before another
no_nearer : (text : List ℕ) (front mid rest : List Token) (t x : Token)
    → tokens_of text ≡ (front ++ t ∷ mid) ++ x ∷ rest → GoesOn (front ++ t ∷ mid)
    → GoesOn (front ++ t ∷ [])
unfolding tokens_of
no_nearer text front mid rest t x cut goes =
    let whole : tokens_of text ≡ front ++ t ∷ (mid ++ x ∷ rest) =
    cut ∙ append_assoc front (t ∷ mid) (x ∷ rest) in
    elim (cut_tokens _ (texts_of text) front t (mid ++ x ∷ rest) whole) [
      | inl none ↦ absurd (no_cut mid x rest (sym none))
      | inr some ↦ front_goes some.0 front t mid x rest some.1 goes
    ]

one_by : (text : List ℕ) {at at' : ℕ} {kind kind' : SourceErrorKind}
    (front rest front' rest' : List Token) (t t' : Token) → tokens_of text ≡ front ++ t ∷ rest
    → tokens_of text ≡ front' ++ t' ∷ rest' → at ≡ length front → at' ≡ length front' → GoesOn front
    → GoesOn front' → (GoesOn (front ++ t ∷ []) → ⊥) → (GoesOn (front' ++ t' ∷ []) → ⊥)
    → kind ≡ kind_at (reverse front) t → kind' ≡ kind_at (reverse front') t'
    → Cuts front t front' t' → (at ≡ at') × (kind ≡ kind')
one_by text front rest front' rest' t t' cut cut' at_is at_is' goes goes' stops stops' kind_is
    kind_is' (here e same) = (
      at_is ∙ ap length e ∙ sym at_is',
      kind_is ∙ ap (λ (l : List Token). kind_at (reverse l) t) e
          ∙ ap (kind_at (reverse front')) same ∙ sym kind_is',
    )
one_by text front rest front' rest' t t' cut cut' at_is at_is' goes goes' stops stops' kind_is
    kind_is' (nearer mid e) =
    absurd (stops (no_nearer text front mid rest' t t'
    (cut' ∙ ap (λ (l : List Token). l ++ t' ∷ rest') e) (subst GoesOn e goes')))
one_by text front rest front' rest' t t' cut cut' at_is at_is' goes goes' stops stops' kind_is
    kind_is' (farther mid e) =
    absurd (stops' (no_nearer text front' mid rest t' t
    (cut ∙ ap (λ (l : List Token). l ++ t ∷ rest) e) (subst GoesOn e goes)))

-- a text has one first fault at most
pub one_text_fault : (text : List ℕ) {kind kind' : SourceErrorKind} {place place' : Place}
    → IsFault text kind place → IsFault text kind' place' → (kind ≡ kind') × (place ≡ place')
unfolding IsFault SourceFault
one_text_fault text (at, (front, t, rest, cut, at_is, goes, stops, kind_is), place_is)
    (at', (front', t', rest', cut', at_is', goes', stops', kind_is'), place_is') =
    let one = one_by text front rest front' rest' t t' cut cut' at_is at_is' goes goes' stops stops'
    kind_is kind_is' (cuts front t rest front' t' rest' (sym cut ∙ cut')) in
    (one.1, place_is ∙ ap (place_at (places_of text)) one.0 ∙ sym place_is')
