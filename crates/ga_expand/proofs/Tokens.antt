-- The tokens of the code are those of the text.
use Rattle.std.proofs.Common.{◌≡◌, ◌∙◌, ◌<◌, ◌≤◌, ℕ, Bool, true, false, List, [], ◌∷◌, length, map, get_or, refl, sym, ap, arith}
use Rattle.std.specs.Prelude.{All, slice_range}
use Rattle.std.specs.List.{list_all}
use Rattle.std.proofs.lemmas.Bool.{and_parts}
use Rattle.std.proofs.lemmas.List.{get_or-map, length-map}
use Rattle.std.proofs.lemmas.List.Folds.{list_all_at}
use Rattle.std.proofs.lemmas.List.Elements.{All-cons, All-head, All-nil, All-tail}
use Rattle.ga_pack.specs.Model.Text.{Lexeme, lexemes, texts_of}
use Rattle.ga_source.specs.Token.{token_of}
use Rattle.ga_source.specs.declared.token.Token.{Token}
use Rattle.ga_expand.specs.Expanding.{piece_at, pieces_of}
use Rattle.ga_expand.specs.inner.Piece.{token_piece}
use Rattle.ga_expand.specs.inner.Plain.{IsTokenOf, is_token}
use Rattle.ga_expand.proofs.TokenTexts.{texts_are_tokens}

same_pieces : (text : List ℕ) (ls : List Lexeme)
    → map (λ t. slice_range text t.start t.end) (map token_of ls) ≡ map (λ l. l.text) ls
    → map (token_piece text) (map token_of ls) ≡ map piece_at ls
same_pieces text [] e = refl
same_pieces text (l ∷ ls) e =
    let first : slice_range text l.start (token_of l).end ≡ l.text = cc in
    let others : map (λ t. slice_range text t.start t.end) (map token_of ls)
    ≡ map (λ l. l.text) ls = cc in
    rw (first, same_pieces text ls others) refl

pub pieces_are : (text : List ℕ) (tokens : List Token) → tokens ≡ map token_of (lexemes text)
    → map (λ t. slice_range text t.start t.end) tokens ≡ texts_of text
    → map (token_piece text) tokens ≡ pieces_of text
unfolding pieces_of texts_of
pieces_are text tokens e slices =
    ap (map (token_piece text)) e
    ∙ same_pieces text (lexemes text)
    (ap (map (λ (t : Token). slice_range text t.start t.end)) (sym e) ∙ slices)

-- each is a token of the text
pub tokens_of_text : (text : List ℕ) (tokens : List Token)
    → All (λ t. (t.start ≤ t.end) × (t.end ≤ length text)) tokens
    → map (λ t. slice_range text t.start t.end) tokens ≡ texts_of text
    → All (IsTokenOf text) tokens
tokens_of_text text tokens inside slices =
    by tokens inside
    (ap (list_all is_token) slices ∙ texts_are_tokens text)
  where
    by : (ts : List Token) → All (λ t. (t.start ≤ t.end) × (t.end ≤ length text)) ts
        → list_all is_token (map (λ t. slice_range text t.start t.end) ts) ≡ true
        → All (IsTokenOf text) ts
    by [] h e = All-nil (IsTokenOf text)
    by (t ∷ ts) h e =
        let two = and_parts (is_token (slice_range text t.start t.end))
        (list_all is_token (map (λ t. slice_range text t.start t.end) ts)) e in
        let here = All-head (λ t. (t.start ≤ t.end) × (t.end ≤ length text)) t ts h in
        All-cons (IsTokenOf text) t ts (here.0, here.1, two.0)
        (by ts (All-tail (λ t. (t.start ≤ t.end) × (t.end ≤ length text)) t ts h) two.1)

true_is_false : true ≡ false → ⊥
true_is_false e = cc

not_false_of : (b : Bool) → (b ≡ false → ⊥) → b ≡ true
not_false_of true h = refl
not_false_of false h = absurd (h refl)

-- ---- at an index

module _ {X Y : Type 0} (f : X → Y) (xs : List X) (index : ℕ) (x other : X)
    (inside : index < length xs) (at : x ≡ get_or xs index other) where
  pub all_at : (p : Y → Bool) → list_all p (map f xs) ≡ true → p (f x) ≡ true
  all_at p all =
      let here : get_or (map f xs) index (f x) ≡ f x =
      get_or-map f xs index other (f x) inside ∙ ap f (sym at) in
      let within : index < length (map f xs) = omega (arith, inside, length-map xs f) in
      not_false_of (p (f x))
      (λ e. absurd (true_is_false (sym all ∙ list_all_at p (map f xs) index (f x) within
      (ap p here ∙ e))))
