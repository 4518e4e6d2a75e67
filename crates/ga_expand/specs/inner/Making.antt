-- What the steps of an expansion make, as the code has them.
use Rattle.std.specs.Prelude.{◌≡◌, ◌≢◌, ◌&&◌, ◌||◌, Bool, not, false, List, [], ◌∷◌, ◌++◌, Result, Ok, Err, codes, map, string_bytes}
use Rattle.std.specs.Str.{bytes_eq}
use Rattle.ga_pack.specs.Model.Text.{texts_of}
use Rattle.ga_source.specs.Token.{place_of}
use Rattle.ga_expand.specs.declared.error.ExpandError.{ExpandError}
use Rattle.ga_expand.specs.declared.error.ExpandErrorKind.TheVariants.{Memory}
use Rattle.ga_expand.specs.declared.expansion.Expansion.{Expansion}
use Rattle.ga_expand.specs.declared.unfolder.Unfolded.{Unfolded}
use Rattle.ga_expand.specs.Bodies.{is_body}
use Rattle.ga_expand.specs.Error.{Fault, fault_of}
use Rattle.ga_expand.specs.Expanding.{Piece}
use Rattle.ga_expand.specs.NodeLists.{begins_section, is_list}
use Rattle.ga_expand.specs.inner.Piece.{piece_in}

-- the tokens of a text without its bodies and its `use`s
abbrev pub unfolded_in : Unfolded → List Piece
unfolded_in unfolded =
    map piece_in unfolded.definitions.items ++ map piece_in unfolded.text.items

-- a token that is neither `use` nor `body`
abbrev pub is_apart : Piece → Bool
is_apart piece = not (bytes_eq piece.text (codes "use") || is_body piece.text)

-- whether any token behind `node` is a list of nodes, by whether `node` is in front of the first
abbrev pub has_list : Bool → List Piece → Bool
has_list behind [] = false
has_list behind (piece ∷ pieces) =
    (behind && is_list piece.text) || has_list (begins_section piece.text) pieces

-- the text has the tokens of an answer, and each has its place
pub record IsMade (answer : Result (List Piece) Fault) (made : Expansion) : Type 0 where
  pub pieces : List Piece
  pub is : answer ≡ Ok pieces
  pub tokens : texts_of (string_bytes made.text) ≡ map (λ piece. piece.text) pieces
  pub places : map place_of made.origins.items ≡ map (λ piece. piece.place) pieces

-- an expansion is made as an answer says, unless memory was refused
abbrev pub Made : Result (List Piece) Fault → Result Expansion ExpandError → Type 0
Made answer (Ok made) = IsMade answer made
Made answer (Err error) = error.kind ≢ Memory → answer ≡ Err (fault_of error)
