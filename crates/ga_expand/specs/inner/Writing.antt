-- What a writer has written.
use Rattle.std.specs.Prelude.{◌≡◌, ℕ, true, List, [], ◌∷◌, ◌++◌, map, string_bytes}
use Rattle.std.specs.List.{list_all}
use Rattle.std.specs.Str.{IsAscii}
use Rattle.ga_word.specs.Text.{is_blank}
use Rattle.ga_pack.specs.Model.Text.{texts_of}
use Rattle.ga_source.specs.Token.{place_of}
use Rattle.ga_source.specs.declared.token.Place as here
use Rattle.ga_expand.specs.declared.expansion.Expansion.{Expansion}
use Rattle.ga_expand.specs.declared.writing.Writer.{Writer}
use Rattle.ga_expand.specs.Expanding.{Piece}
use Rattle.ga_expand.specs.inner.Plain.{is_written}

-- A writer has written these tokens: they are in front of what follows its text behind a blank.
pub record Written (writer : Writer) (pieces : List Piece) : Type 0 where
  pub texts : (c : ℕ) (rest : List ℕ) → is_blank c ≡ true
      → texts_of (writer.text.items ++ c ∷ rest) ≡ map (λ piece. piece.text) pieces ++ texts_of rest
  pub places : map place_of writer.origins.items ≡ map (λ piece. piece.place) pieces
  pub first : pieces ≡ [] → writer.text.items ≡ []
  pub ascii : IsAscii writer.text.items

-- a blank is added behind a token, and nothing where there is none
abbrev pub IsSeparated : List here.Place → List ℕ → List ℕ → Type 0
IsSeparated [] text separated = separated ≡ text
IsSeparated (place ∷ places) text separated =
    (c : ℕ) × (separated ≡ text ++ c ∷ []) × (is_blank c ≡ true)

-- a token is added
abbrev pub HasAdded : Writer → Writer → Piece → Type 0
HasAdded before after piece =
    (pieces : List Piece) → Written before pieces → is_written piece ≡ true
    → Written after (pieces ++ piece ∷ [])

-- tokens are added
abbrev pub HasAddedAll : Writer → Writer → List Piece → Type 0
HasAddedAll before after added =
    (pieces : List Piece) → Written before pieces → list_all is_written added ≡ true
    → Written after (pieces ++ added)

-- the text has the tokens that were written, and each has its place
abbrev pub Finished : Writer → Expansion → Type 0
Finished writer made =
    (pieces : List Piece) → Written writer pieces
    → (texts_of (string_bytes made.text) ≡ map (λ piece. piece.text) pieces)
    × (map place_of made.origins.items ≡ map (λ piece. piece.place) pieces)
