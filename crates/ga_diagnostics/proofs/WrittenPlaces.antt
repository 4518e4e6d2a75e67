-- The place where a token of an expansion was written, by the tokens of the expansion.
use Rattle.std.proofs.Common.{◌≡◌, ◌∙◌, ℕ, Bool, not, List, [], ◌∷◌, Option, Some, None, map, refl, sym, ap}
use Rattle.std.specs.Prelude.{◌==◌, ◌&&◌, slice_get}
use Rattle.std.specs.List.{position, prefix_len}
use Rattle.std.specs.Option.{option_and_then, option_map}
use Rattle.std.proofs.lemmas.List.{length-map}
use Rattle.std.proofs.lemmas.Option.{slice_get-map}
use Rattle.ga_pack.specs.Model.Text.{Place, lexemes}
use Rattle.ga_source.specs.Token.{place_of, token_of}
use Rattle.ga_source.specs.declared.token.Place as here
use Rattle.ga_source.specs.declared.token.Token.{Token}
use Rattle.ga_expand.specs.Texts.{is_at, origin_of}

module _ {X Y : Type 0} (f : X → Y) (p : Y → Bool) where
  prefix_map : (xs : List X) → prefix_len (λ y. not (p y)) (map f xs)
      ≡ prefix_len (λ x. not (p (f x))) xs
  prefix_map [] = refl
  prefix_map (x ∷ xs) = rw (prefix_map xs) refl

  position_map : (xs : List X) → position p (map f xs) ≡ position (λ x. p (f x)) xs
  position_map xs = rw (prefix_map xs, length-map xs f) refl

abbrev is_there : here.Place → Token → Bool
is_there place token = (token.line == place.line) && (token.column == place.column)

found : (text : List ℕ) (tokens : List Token) (place : here.Place)
    → tokens ≡ map token_of (lexemes text)
    → position (is_there place) tokens ≡ position (is_at (place_of place)) (lexemes text)
found text tokens place e =
    ap (position (is_there place)) e
    ∙ position_map token_of (is_there place) (lexemes text)

pub origin_found : (text : List ℕ) (tokens : List Token) (origins : List here.Place)
    (place : here.Place) (index : ℕ) → tokens ≡ map token_of (lexemes text)
    → Some index ≡ position (is_there place) tokens
    → option_map place_of (slice_get origins index)
    ≡ origin_of text (map place_of origins) (place_of place)
unfolding origin_of
origin_found text tokens origins place index e at =
    sym (ap (option_and_then (slice_get (map place_of origins)))
    (sym (at ∙ found text tokens place e)) ∙ slice_get-map place_of origins index)

pub no_origin : (text : List ℕ) (tokens : List Token) (origins : List here.Place)
    (place : here.Place) → tokens ≡ map token_of (lexemes text)
    → ◌≡◌ {A = Option ℕ} None (position (is_there place) tokens)
    → ◌≡◌ {A = Option Place} None (origin_of text (map place_of origins) (place_of place))
unfolding origin_of
no_origin text tokens origins place e at =
    ap (option_and_then (slice_get (map place_of origins))) (at ∙ found text tokens place e)
