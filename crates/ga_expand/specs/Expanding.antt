-- Which tokens those of the larger language expand to, and where each was written.
use Rattle.std.specs.Prelude.{◌==◌, ◌&&◌, ℕ, Bool, List, [], ◌∷◌, ◌++◌, map, nat_lt, Option, Some, None, Result, Ok, Err, if◌then◌else◌, codes, not}
use Rattle.std.specs.List.{list_all}
use Rattle.std.specs.Option.{is_some}
use Rattle.std.specs.Str.{bytes_eq}
use Rattle.ga_word.specs.Hex.{hex_digits}
use Rattle.ga_pack.specs.Model.Text.{Lexeme, Place, lexemes}
use Rattle.ga_pack.specs.Model.Token.{Token, comma, is_name, is_reserved, meaning_of, node, op}
use Rattle.ga_place.specs.Node.{node_named}
use Rattle.ga_place.specs.Side.{Direction}
use Rattle.ga_word.specs.Op.{takes_dest}
use Rattle.ga_expand.specs.declared.error.ExpandErrorKind.{ExpandErrorKind}
use Rattle.ga_expand.specs.declared.error.ExpandErrorKind.TheVariants.{BadNode, BadToken, DuplicateName, OpenDefinition, ReservedName}
use Rattle.ga_expand.specs.declared.value.Operand.{Operand}
use Rattle.ga_expand.specs.Constants.{Constants, constant_named, constant_of, constant_word, is_kept, is_taken_label}
use Rattle.ga_expand.specs.Expression.{value_of}
use Rattle.ga_expand.specs.Error.{Fault}
use Rattle.ga_expand.specs.Literal.{literal_of}
use Rattle.ga_expand.specs.Places.{direction_named, port_named, port_towards}

-- what a token is written as, and the place where it was written
pub record Piece : Type 0 where
  pub text : List ℕ
  pub place : Place

-- the tokens of a text
abbrev pub piece_at : Lexeme → Piece
piece_at lexeme = record { text = lexeme.text; place = lexeme.place }

unfoldable pub pieces_of : List ℕ → List Piece
pieces_of text = map piece_at (lexemes text)

-- ---- what one token expands to

-- a number in the plain language: `$` and five hex digits
abbrev pub number_text : ℕ → List ℕ
number_text n = 36 ∷ hex_digits 5 n

abbrev pub is_ascii : List ℕ → Bool
is_ascii text = list_all (λ c. nat_lt c 128) text

-- a token that writes no number of the larger language stays, if all its characters are of ASCII
abbrev pub same_or : Option Operand → List ℕ → Result (List ℕ) ExpandErrorKind
same_or (Some constant) text = Ok (number_text (constant_word constant))
same_or None text = if is_ascii text then Ok text else Err BadToken

-- A number in a form of the larger language, or the name of a constant, is that number in the plain
-- language.
abbrev pub word_by : Constants → List ℕ → Result (Option ℕ) ExpandErrorKind
    → Result (List ℕ) ExpandErrorKind
word_by constants text (Err kind) = Err kind
word_by constants text (Ok (Some n)) = Ok (number_text n)
word_by constants text (Ok None) = same_or (constant_named constants text) text

unfoldable pub word_of : Constants → List ℕ → Result (List ℕ) ExpandErrorKind
word_of constants text = word_by constants text (literal_of text)

-- ---- what the tokens so far say of those behind them

-- what the next token is for
pub data Stage : Type 0 where
  -- a definition, or the end of the definitions, with which a text begins
  Head : Stage
  -- the name of a constant; its `const` is here
  Naming : Place → Stage
  -- the value of the constant with this name
  Valuing : List ℕ → Place → Stage
  -- an item of the plain text, or a part of one
  Body : Stage
  -- the name of a node, behind `node`
  NodeName : Stage
  -- a number or the name of a label, behind `,` or an opcode that takes a destination
  Value : Stage
  -- the name of a neighbour of a node; its `to` is here
  Towards : ℕ → Place → Stage

pub record Scope : Type 0 where
  pub constants : Constants
  -- the node whose section it is
  pub node : Option ℕ
  pub stage : Stage

abbrev pub start : Scope
start = record { constants = []; node = None; stage = Head }

abbrev pub with_stage : Scope → Stage → Scope
with_stage scope stage = record { constants = scope.constants; node = scope.node; stage = stage }

-- what a token changes, and the tokens that it expands to
pub record Step : Type 0 where
  pub scope : Scope
  pub pieces : List Piece

-- it expands to a token
abbrev pub word_step : Scope → Place → Result (List ℕ) ExpandErrorKind
    → Result Step ExpandErrorKind
word_step scope place (Err kind) = Err kind
word_step scope place (Ok text) =
    Ok (record { scope = scope; pieces = record { text = text; place = place } ∷ [] })

abbrev pub word_at : Scope → Piece → Result Step ExpandErrorKind
word_at scope piece = word_step scope piece.place (word_of scope.constants piece.text)

-- it expands to a number
abbrev pub number_step : Scope → Place → Result ℕ ExpandErrorKind → Result Step ExpandErrorKind
number_step scope place (Err kind) = Err kind
number_step scope place (Ok n) =
    Ok (record { scope = scope; pieces = record { text = number_text n; place = place } ∷ [] })

-- it expands to nothing
abbrev pub silent : Scope → Result Step ExpandErrorKind
silent scope = Ok (record { scope = scope; pieces = [] })

-- ---- definitions

abbrev pub is_const : List ℕ → Bool
is_const text = bytes_eq text (codes "const")

-- a name that no constant has yet, and that isn't kept for another use
abbrev pub named : Scope → List ℕ → Place → Result Step ExpandErrorKind
named scope text place =
    if not (is_name text) then Err BadToken else if is_kept text then Err ReservedName
    else if is_some (constant_of scope.constants text) then Err DuplicateName
    else silent (with_stage scope (Valuing text place))

abbrev pub with_constant : Scope → List ℕ → Operand → Scope
with_constant scope name value = record {
  constants = scope.constants ++ (name, value) ∷ [];
  node = scope.node;
  stage = Head;
}

abbrev pub valued : Scope → List ℕ → Result Operand ExpandErrorKind → Result Step ExpandErrorKind
valued scope name (Err kind) = Err kind
valued scope name (Ok value) = silent (with_constant scope name value)

-- ---- sections

-- what is behind a token of the plain language
abbrev pub stage_by : Token → Stage
stage_by node = NodeName
stage_by comma = Value
stage_by (op o) = if takes_dest o then Value else Body
stage_by token = Body

abbrev pub plain_at : Scope → Piece → Result Step ExpandErrorKind
plain_at scope piece = word_at (with_stage scope (stage_by (meaning_of piece.text))) piece

abbrev pub is_to : List ℕ → Bool
is_to text = bytes_eq text (codes "to")

-- A direction is the port of the node there. A name where an item may begin is no label's.
abbrev pub directed : Scope → ℕ → Piece → Option Direction → Result Step ExpandErrorKind
directed scope name piece None = plain_at scope piece
directed scope name piece (Some direction) =
    number_step (with_stage scope Body) piece.place (port_towards name direction)

abbrev pub item_at : Scope → Option ℕ → Piece → Result Step ExpandErrorKind
item_at scope None piece = plain_at scope piece
item_at scope (Some name) piece =
    if is_to piece.text then silent (with_stage scope (Towards name piece.place))
    else directed scope name piece (direction_named piece.text)

-- the label whose address a token is: a name behind `&` that isn't reserved
abbrev pub label_in : List ℕ → Option (List ℕ)
label_in [] = None
label_in (c ∷ name) =
    if (c == 38) && is_name name && not (is_reserved name) then Some name else None

-- a word that fetches the next one, and that one, the address of a label
abbrev pub address_texts : List ℕ → List (List ℕ)
address_texts label =
    codes "[" ∷ codes "@p" ∷ codes "." ∷ codes "." ∷ codes "." ∷ codes "]" ∷ codes "," ∷ label ∷ []

abbrev pub all_at : Place → List (List ℕ) → List Piece
all_at place texts = map (λ text. record { text = text; place = place }) texts

-- The address of a label is put on the stack. A name behind `&` is no constant's.
abbrev pub addressed : Scope → Piece → Option (List ℕ) → Result Step ExpandErrorKind
addressed scope piece None = item_at scope scope.node piece
addressed scope piece (Some label) =
    Ok (record { scope = with_stage scope Body; pieces = all_at piece.place (address_texts label) })

abbrev pub in_node : Scope → Option ℕ → Scope
in_node scope name = record { constants = scope.constants; node = name; stage = Body }

unfoldable pub step_at : Scope → Piece → Stage → Result Step ExpandErrorKind
step_at scope piece Head =
    if is_const piece.text then silent (with_stage scope (Naming piece.place))
    else plain_at scope piece
step_at scope piece (Naming place) = named scope piece.text place
step_at scope piece (Valuing name place) =
    valued scope name (value_of scope.constants piece.text)
step_at scope piece Body =
    if is_taken_label scope.constants piece.text then Err DuplicateName
    else addressed scope piece (label_in piece.text)
step_at scope piece NodeName = word_at (in_node scope (node_named piece.text)) piece
step_at scope piece Value = plain_at scope piece
step_at scope piece (Towards name place) =
    number_step (with_stage scope Body) place (port_named name piece.text)

abbrev pub step : Scope → Piece → Result Step ExpandErrorKind
step scope piece = step_at scope piece scope.stage

-- ---- what all tokens expand to

-- a definition without its end, or `to` without a node, is an error at its first token
abbrev pub ended : Stage → Result (List Piece) Fault
ended (Naming place) = Err (record { kind = OpenDefinition; place = place })
ended (Valuing name place) = Err (record { kind = OpenDefinition; place = place })
ended (Towards name place) = Err (record { kind = BadNode; place = place })
ended stage = Ok []

-- in front of what others expand to
abbrev pub onto : List Piece → Result (List Piece) Fault → Result (List Piece) Fault
onto pieces (Ok others) = Ok (pieces ++ others)
onto pieces (Err fault) = Err fault

abbrev pub further : Place → Result Step ExpandErrorKind → (Scope → Result (List Piece) Fault)
    → Result (List Piece) Fault
further place (Ok made) rest = onto made.pieces (rest made.scope)
further place (Err kind) rest = Err (record { kind = kind; place = place })

-- the tokens that these expand to, or the first error
unfoldable pub expansion_from : Scope → List Piece → Result (List Piece) Fault
expansion_from scope [] = ended scope.stage
expansion_from scope (piece ∷ pieces) =
    further piece.place (step scope piece) (λ next. expansion_from next pieces)
