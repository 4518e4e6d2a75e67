-- Which tokens a text of the larger language expands to, and where each was written.
use Rattle.std.specs.Prelude.{◌≡◌, ◌==◌, ◌&&◌, slice_get, ℕ, Bool, List, map, Option, Result, Ok, Err, string_bytes}
use Rattle.std.specs.List.{position}
use Rattle.std.specs.Option.{option_and_then}
use Rattle.ga_pack.specs.Model.Text.{Lexeme, Place, lexemes, texts_of}
use Rattle.ga_source.specs.Token.{place_of}
use Rattle.ga_expand.specs.declared.expansion.Expansion as written
use Rattle.ga_expand.specs.Bodies.{unfolded}
use Rattle.ga_expand.specs.Error.{Fault}
use Rattle.ga_expand.specs.Expanding.{Piece, expansion_from, pieces_of, start}
use Rattle.ga_expand.specs.NodeLists.{spread}

abbrev pub expanded : Result (List Piece) Fault → Result (List Piece) Fault
expanded (Ok pieces) = expansion_from start pieces
expanded (Err fault) = Err fault

-- The tokens that a text expands to, or its first error. First each `use` is replaced, then each
-- list of nodes, and then each token is expanded.
unfoldable pub expansion : List ℕ → Result (List Piece) Fault
expansion text = expanded (spread (unfolded (pieces_of text)))

-- The text of an expansion has the tokens that a text expands to, and each has its place.
pub record IsExpansion (text : List ℕ) (made : written.Expansion) : Type 0 where
  pub pieces : List Piece
  pub is : expansion text ≡ Ok pieces
  pub tokens : texts_of (string_bytes made.text) ≡ map (λ piece. piece.text) pieces
  pub places : map place_of made.origins.items ≡ map (λ piece. piece.place) pieces

-- ---- back from the expansion

abbrev pub is_at : Place → Lexeme → Bool
is_at place lexeme =
    (lexeme.place.line == place.line) && (lexeme.place.column == place.column)

-- the place where the token at a place of a text was written
unfoldable pub origin_of : List ℕ → List Place → Place → Option Place
origin_of text origins place =
    option_and_then (slice_get origins) (position (is_at place) (lexemes text))
