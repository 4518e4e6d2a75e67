-- The program of a source text with the places of its items, and the first fault of a text with its
-- place.
use Rattle.std.specs.Prelude.{◌≡◌, ℕ, ◌+◌, false, List, [], ◌∷◌, drop, length, slice_index_or, Option, Some, None}
use Rattle.std.specs.Option.{option_map}
use Rattle.ga_pack.specs.Model.Text.{Place, places_of, texts_of}
use Rattle.ga_pack.specs.Model.Token.{Token, meanings}
use Rattle.ga_pack.specs.Model.Source.{Label, Item, Transfer, WordTo, Plain, Section, Source, item_tokens, items_tokens}
use Rattle.ga_pack.specs.Model.SourceFault.{SourceFault}
use Rattle.ga_pack.specs.declared.error_kind.SourceErrorKind.{SourceErrorKind}

-- the tokens of a text, and its end
unfoldable pub tokens_of : List ℕ → List Token
tokens_of text = meanings false (texts_of text)

-- the place of a token, by its number from 0
abbrev pub place_at : List Place → ℕ → Place
place_at places at = slice_index_or places at (record { line = 1; column = 1 })

-- an item with the place of its first token, and the place of the name that it uses as a value, if
-- it uses one
pub record PlacedItem : Type 0 where
  pub item : Item
  pub place : Place
  pub name_place : Option Place

-- which of an item's tokens, from 0, is the name that it uses as a value
abbrev pub name_token : Item → Option ℕ
name_token (Transfer o (Label s)) = Some 1
name_token (WordTo ops o (Label s) spare) = Some (length ops + 2)
name_token (Plain (Label s)) = Some 1
name_token i = None

-- an item whose tokens have the first of these places
abbrev pub placed : List Place → Item → PlacedItem
placed places i = record {
  item = i;
  place = place_at places 0;
  name_place = option_map (place_at places) (name_token i);
}

-- items, the first token of which has the first place
unfoldable pub placed_items : List Place → List Item → List PlacedItem
placed_items places [] = []
placed_items places (i ∷ is) =
    placed places i ∷ placed_items (drop (length (item_tokens i [])) places) is

-- a node and its items
pub record PlacedSection : Type 0 where
  pub name : ℕ
  pub items : List PlacedItem

-- Sections, the first token of which, `node`, has the first place. Its name is the second token.
unfoldable pub placed_sections : List Place → List Section → List PlacedSection
placed_sections places [] = []
placed_sections places (s ∷ ss) =
    record { name = s.name; items = placed_items (drop 2 places) s.items }
    ∷ placed_sections (drop (2 + length (items_tokens s.items [])) places) ss

-- a text with this program
unfoldable pub IsProgram : List ℕ → List PlacedSection → Type 0
IsProgram text program =
    (sections : List Section) × Source (tokens_of text) sections
    × (program ≡ placed_sections (places_of text) sections)

-- the first fault of a text, with its kind and its place
unfoldable pub IsFault : List ℕ → SourceErrorKind → Place → Type 0
IsFault text kind place =
    (at : ℕ) × SourceFault (tokens_of text) at kind × (place ≡ place_at (places_of text) at)
