-- The tokens of a text, as the code reads them.
use Rattle.std.proofs.Common.{◌≡◌, ◌∙◌, ◌+◌, ◌<◌, ◌≤◌, ℕ, suc, List, [], ◌∷◌, length, map, get_or, drop, refl, sym, ap, add-one, arith}
use Rattle.std.specs.Prelude.{slice_range}
use Rattle.std.proofs.Math.Seq.{drop-cons}
use Rattle.std.proofs.lemmas.List.{drop_all, get_or-map, length-map}
use Rattle.ga_pack.specs.Model.Text.{Lexeme, lexemes, texts_of}
use Rattle.ga_source.specs.Token.{token_of}
use Rattle.ga_source.specs.declared.token.Token.{Token}
use Rattle.ga_expand.specs.Expanding.{Piece, piece_at, pieces_of}

-- a token of a text
abbrev pub token_piece : List ℕ → Token → Piece
token_piece text token = record {
  text = slice_range text token.start token.end;
  place = record { line = token.line; column = token.column };
}

same_pieces : (text : List ℕ) (found : List Lexeme)
    → map (λ t. slice_range text t.start t.end) (map token_of found) ≡ map (λ l. l.text) found
    → map (token_piece text) (map token_of found) ≡ map piece_at found
same_pieces text [] e = refl
same_pieces text (lexeme ∷ found) e =
    let first : slice_range text lexeme.start (token_of lexeme).end ≡ lexeme.text = cc in
    let others : map (λ t. slice_range text t.start t.end) (map token_of found)
    ≡ map (λ l. l.text) found = cc in
    rw (first, same_pieces text found others) refl

pub pieces_are : (text : List ℕ) (tokens : List Token) → tokens ≡ map token_of (lexemes text)
    → map (λ t. slice_range text t.start t.end) tokens ≡ texts_of text
    → map (token_piece text) tokens ≡ pieces_of text
unfolding pieces_of texts_of
pieces_are text tokens e slices =
    ap (map (token_piece text)) e
    ∙ same_pieces text (lexemes text)
    (ap (map (λ (t : Token). slice_range text t.start t.end)) (sym e) ∙ slices)

-- what is left of a list at an index, each element seen through a function
pub left_at : {X Y : Type 0} (f : X → Y) (xs : List X) (index : ℕ) (x other : X)
    → index < length xs → x ≡ get_or xs index other
    → drop index (map f xs) ≡ f x ∷ drop (index + 1) (map f xs)
left_at {X = X} {Y = Y} f xs index x other inside at =
    let within : index < length (map f xs) = omega (arith, inside, length-map xs f) in
    let cut = drop-cons (map f xs) index (f x) within in
    let here : get_or (map f xs) index (f x) ≡ f x =
    get_or-map f xs index other (f x) inside ∙ ap f (sym at) in
    cut ∙ ap (λ (y : Y). y ∷ drop (suc index) (map f xs)) here
    ∙ ap (λ (i : ℕ). f x ∷ drop i (map f xs)) (sym (add-one index))

-- nothing is left behind its end
pub none_left : {X Y : Type 0} (f : X → Y) (xs : List X) (index : ℕ) → length xs ≤ index
    → drop index (map f xs) ≡ []
none_left f xs index past = drop_all index (map f xs) (omega (arith, length-map xs f, past))
