-- The token that names the nodes of a section.
use Rattle.std.proofs.Common.{◌≡◌, ◌∙◌, ℕ, Bool, true, false, List, [], ◌∷◌, Option, Some, map, refl, sym, ap, subst, if◌then◌else◌}
use Rattle.std.specs.Prelude.{All, filter, option_map, slice_get, slice_range}
use Rattle.std.proofs.lemmas.List.Elements.{All-filter}
use Rattle.std.proofs.lemmas.Option.{get_or_from_slice_get, slice_get-map, slice_get_within}
use Rattle.ga_expand.specs.Expanding.{Piece}
use Rattle.ga_pack.specs.Model.Text.{lexemes, texts_of}
use Rattle.ga_source.specs.Token.{token_of}
use Rattle.ga_source.specs.declared.token.Token.{Token}
use Rattle.ga_faults.specs.Sections.{has_line, is_name, names_node}
use Rattle.ga_faults.specs.declared.sections.Section.{Section}
use Rattle.ga_faults.proofs.TokensRead.{pieces_are, token_piece}

-- the token behind the first one of a section, as the code finds it
abbrev pub name_in : Section → List Token → Option Token
name_in section tokens = slice_get (filter (λ token. has_line token.line section) tokens) 1

-- it is a slice of the text
pub name_inside : (P : Token → Type 0) (section : Section) (tokens : List Token) (token : Token)
    → All P tokens → name_in section tokens ≡ Some token → P token
name_inside P section tokens token all is =
    let kept = filter (λ (t : Token). has_line t.line section) tokens in
    subst P (get_or_from_slice_get kept 1 token token is)
    (All-filter (λ (t : Token). has_line t.line section) P tokens all 1 token
    (slice_get_within kept 1 token is))

filter_map : {X Y : Type 0} (f : X → Y) (keeps : Y → Bool) (xs : List X)
    → filter keeps (map f xs) ≡ map f (filter (λ x. keeps (f x)) xs)
filter_map f keeps [] = refl
filter_map f keeps (x ∷ xs) = by_kept (keeps (f x)) (filter_map f keeps xs)
  where
    by_kept : (b : Bool) → filter keeps (map f xs) ≡ map f (filter (λ x. keeps (f x)) xs)
        → (if b then f x ∷ filter keeps (map f xs) else filter keeps (map f xs))
        ≡ map f (if b then x ∷ filter (λ x. keeps (f x)) xs else filter (λ x. keeps (f x)) xs)
    by_kept true rest = ap (λ ys. f x ∷ ys) rest
    by_kept false rest = rest

-- the code finds the token of the definition
pub name_found : (text : List ℕ) (tokens : List Token) (section : Section) (node : ℕ)
    → tokens ≡ map token_of (lexemes text)
    → map (λ t. slice_range text t.start t.end) tokens ≡ texts_of text
    → is_name node (option_map (token_piece text) (name_in section tokens))
    ≡ names_node text node section
name_found text tokens section node e slices =
    let keeps : Piece → Bool = λ token. has_line token.place.line section in
    let pieces = pieces_are text tokens e slices in
    ap (is_name node)
    (sym (slice_get-map (token_piece text)
    (filter (λ (t : Token). has_line t.line section) tokens) 1)
    ∙ ap (λ found. slice_get found 1)
    (sym (filter_map (token_piece text) keeps tokens) ∙ ap (filter keeps) pieces))
