-- Shared bodies: how the head of a text defines them, and which tokens each `use` stands for.
use Rattle.std.specs.Prelude.{◌||◌, ◌&&◌, ◌==◌, ◌-◌, ℕ, Bool, true, false, not, List, [], ◌∷◌, ◌++◌, codes, length, map, nat_le, nat_lt, slice_get, Option, Some, None, Result, Ok, Err, if◌then◌else◌}
use Rattle.std.specs.List.{find, position}
use Rattle.std.specs.Option.{is_some, option_and_then, unwrap_or}
use Rattle.std.specs.Str.{bytes_eq}
use Rattle.ga_pack.specs.Model.Text.{Place}
use Rattle.ga_pack.specs.Model.Token.{is_name, meaning_of}
use Rattle.ga_expand.specs.declared.error.ExpandErrorKind.{ExpandErrorKind}
use Rattle.ga_expand.specs.declared.error.ExpandErrorKind.TheVariants.{BadToken, DuplicateName, OpenDefinition, ReservedName, TooLarge, UnknownBody}
use Rattle.ga_expand.specs.Constants.{is_among, is_kept, words_of_definitions}
use Rattle.ga_expand.specs.Error.{Fault}
use Rattle.ga_expand.specs.Expanding.{Body, NodeName, Piece, Stage, is_const, stage_by}

-- A token of a body, or an argument. It may be the name of a parameter, which has a number from 0.
pub record Part : Type 0 where
  pub piece : Piece
  pub parameter : Option ℕ

pub record SharedBody : Type 0 where
  pub name : List ℕ
  -- how many arguments a `use` of it has
  pub arity : ℕ
  pub parts : List Part

-- The most tokens that all `use`s of a text stand for. A body that uses another one twice is twice
-- as long, so without a limit thirty such bodies would be longer than any memory.
abbrev pub most_unfolded : ℕ
most_unfolded = 262144

-- A text has at most this many bodies, and a body at most this many parameters, so that the one
-- with a name is found soon.
abbrev pub most_bodies : ℕ
most_bodies = 256

abbrev pub most_parameters : ℕ
most_parameters = 64

-- the body that is being defined: the place of its `body`, and its name
pub record Draft : Type 0 where
  pub start : Place
  pub name : List ℕ

-- what the next token is for
pub data Reading : Type 0 where
  -- a definition, or the end of the definitions
  Definitions : Reading
  ConstantName : Reading
  ConstantValue : Reading
  -- the name of a body; its `body` is here
  BodyName : Place → Reading
  -- a parameter of the body whose `body` is on this line, or the first token of the body
  Parameters : ℕ → Reading
  -- a token of a body or of the text, which is for this in the plain language
  Tokens : Stage → Reading
  -- the name of a body; its `use` is here
  UseName : Place → Reading
  -- An argument, with as many more behind it; its `use` is here. The body has these tokens, and
  -- these are the arguments before it.
  Arguments : Place → ℕ → List Part → List Part → Reading

-- what the tokens so far say
pub record Unfolding : Type 0 where
  -- the names of the constants, and the tokens that define them
  pub constants : List (List ℕ)
  pub definitions : List Piece
  pub bodies : List SharedBody
  -- how many tokens further `use`s may stand for
  pub left : ℕ
  -- the body that is being defined, if one is, and its parameters
  pub draft : Option Draft
  pub parameters : List (List ℕ)
  -- the tokens of this body
  pub parts : List Part
  -- the tokens of the text behind its definitions
  pub text : List Piece
  pub reading : Reading

abbrev pub first : Unfolding
first = record {
  constants = [];
  definitions = [];
  bodies = [];
  left = most_unfolded;
  draft = None;
  parameters = [];
  parts = [];
  text = [];
  reading = Definitions;
}

abbrev pub failed : ExpandErrorKind → Place → Result Unfolding Fault
failed kind place = Err (record { kind = kind; place = place })

-- an error, unless there is none
abbrev pub unless : Option ExpandErrorKind → Place → Unfolding → Result Unfolding Fault
unless (Some kind) place next = failed kind place
unless None place next = Ok next

-- ---- names

abbrev pub body_named : List SharedBody → List ℕ → Option SharedBody
body_named bodies text = find (λ body. bytes_eq body.name text) bodies

abbrev pub is_body_name : Unfolding → List ℕ → Bool
is_body_name now text = is_some (body_named now.bodies text)

-- a body has no name of a constant or of another body
abbrev pub is_taken : Unfolding → List ℕ → Bool
is_taken now text = is_body_name now text || is_among now.constants text

-- what is wrong with a name that is defined, if it is taken or not, and if there are as many as may
-- be
abbrev pub name_error : Bool → Bool → List ℕ → Option ExpandErrorKind
name_error taken full text =
    if not (is_name text) then Some BadToken else if is_kept text then Some ReservedName
    else if taken then Some DuplicateName else if full then Some TooLarge else None

abbrev pub has_all_bodies : Unfolding → Bool
has_all_bodies now = nat_le most_bodies (length now.bodies)

abbrev pub has_all_parameters : Unfolding → Bool
has_all_parameters now = nat_le most_parameters (length now.parameters)

-- ---- definitions

abbrev pub is_body : List ℕ → Bool
is_body text = bytes_eq text (codes "body")

-- a token of a constant's definition
abbrev pub kept : Unfolding → Piece → Reading → Unfolding
kept now piece next =
    record now { definitions = now.definitions ++ piece ∷ []; reading = next }

abbrev pub with_name : Unfolding → Piece → Unfolding
with_name now piece = record now {
  constants = now.constants ++ piece.text ∷ [];
  definitions = now.definitions ++ piece ∷ [];
  reading = ConstantValue;
}

abbrev pub drafted : Unfolding → Draft → Unfolding
drafted now draft = record now { draft = Some draft; reading = Parameters draft.start.line }

abbrev pub with_parameter : Unfolding → List ℕ → Unfolding
with_parameter now text = record now { parameters = now.parameters ++ text ∷ [] }

-- the body that a token ends
abbrev pub ends : Option Draft → List ℕ → Option Draft
ends None text = None
ends (Some draft) text = if bytes_eq text (codes "end") then Some draft else None

abbrev pub defined : Unfolding → Draft → Unfolding
defined now draft = record now {
  bodies = now.bodies
      ++ record { name = draft.name; arity = length now.parameters; parts = now.parts } ∷ [];
  draft = None;
  parameters = [];
  parts = [];
  reading = Definitions;
}

-- ---- tokens

abbrev pub part_at : Unfolding → Piece → Part
part_at now piece = record {
  piece = piece;
  parameter = position (λ name. bytes_eq name piece.text) now.parameters;
}

-- what is behind a token of the plain language that is for this
abbrev pub behind : Stage → List ℕ → Stage
behind NodeName text = Body
behind stage text = stage_by (meaning_of text)

abbrev pub behind_all : Stage → List Part → Stage
behind_all stage [] = stage
behind_all stage (part ∷ parts) = behind_all (behind stage part.piece.text) parts

-- `use` is a word where an item may begin
abbrev pub is_use : Stage → List ℕ → Bool
is_use Body text = bytes_eq text (codes "use")
is_use stage text = false

-- tokens of the body that is being defined, or else of the text, and what is behind them
abbrev pub with_parts : Unfolding → Option Draft → List Part → Stage → Unfolding
with_parts now (Some draft) parts stage =
    record now { parts = now.parts ++ parts; reading = Tokens stage }
with_parts now None parts stage = record now {
  text = now.text ++ map (λ part. part.piece) parts;
  reading = Tokens stage;
}

abbrev pub with_token : Unfolding → Stage → Piece → Unfolding
with_token now stage piece =
    if is_use stage piece.text then record now { reading = UseName piece.place }
    else with_parts now now.draft (part_at now piece ∷ []) (behind stage piece.text)

-- a token of a body or of the text, or the end of a body
abbrev pub token_or_end : Unfolding → Stage → Piece → Option Draft → Unfolding
token_or_end now stage piece (Some draft) = defined now draft
token_or_end now stage piece None = with_token now stage piece

-- ---- what a `use` stands for

-- the argument, if it is a parameter's name
abbrev pub filled : List Part → Part → Part
filled arguments part = unwrap_or (option_and_then (slice_get arguments) part.parameter) part

abbrev pub used : Unfolding → List Part → List Part → Unfolding
used now parts arguments =
    let all = map (filled arguments) parts in with_parts now now.draft all (behind_all Body all)

-- a `use` for which this many arguments are missing
abbrev pub missing : Unfolding → Place → ℕ → List Part → List Part → Unfolding
missing now place more parts arguments =
    if more == 0 then used now parts arguments
    else record now { reading = Arguments place (more - 1) parts arguments }

abbrev pub begun : Unfolding → Place → SharedBody → Unfolding
begun now place body =
    missing (record now { left = now.left - length body.parts }) place body.arity body.parts []

abbrev pub use_of : Unfolding → Place → Place → Option SharedBody → Result Unfolding Fault
use_of now place name None = failed UnknownBody name
use_of now place name (Some body) =
    if nat_lt now.left (length body.parts) then failed TooLarge name else Ok (begun now place body)

-- the end of a body is no part of a `use`
abbrev pub unless_ended : Option Draft → Place → Result Unfolding Fault → Result Unfolding Fault
unless_ended (Some draft) place next = failed OpenDefinition place
unless_ended None place next = next

-- ---- arguments

-- a word with which a definition, a `use`, an include or a section begins, or a body ends
abbrev pub is_delimiter : List ℕ → Bool
is_delimiter text = is_among words_of_definitions text || bytes_eq text (codes "node")

-- whether a token may be an argument of a `use` on a line: it is on this line, and no such word
abbrev pub is_argument : ℕ → Piece → Bool
is_argument line piece = (piece.place.line == line) && not (is_delimiter piece.text)

-- ---- all tokens

unfoldable pub read_at : Unfolding → Piece → Reading → Result Unfolding Fault
read_at now piece Definitions =
    if is_const piece.text then Ok (kept now piece ConstantName)
    else if is_body piece.text then Ok (record now { reading = BodyName piece.place })
    else Ok (with_token now Body piece)
read_at now piece ConstantName =
    if is_body_name now piece.text then failed DuplicateName piece.place
    else Ok (with_name now piece)
read_at now piece ConstantValue = Ok (kept now piece Definitions)
read_at now piece (BodyName place) =
    unless (name_error (is_taken now piece.text) (has_all_bodies now) piece.text) piece.place
    (drafted now (record { start = place; name = piece.text }))
read_at now piece (Parameters line) =
    if piece.place.line == line
    then unless
    (name_error (is_among now.parameters piece.text) (has_all_parameters now) piece.text)
    piece.place (with_parameter now piece.text)
    else Ok (token_or_end now Body piece (ends now.draft piece.text))
read_at now piece (Tokens stage) =
    Ok (token_or_end now stage piece (ends now.draft piece.text))
read_at now piece (UseName place) =
    unless_ended (ends now.draft piece.text) place
    (use_of now place piece.place (body_named now.bodies piece.text))
read_at now piece (Arguments place more parts arguments) =
    if is_argument place.line piece
    then Ok (missing now place more parts (arguments ++ part_at now piece ∷ []))
    else failed OpenDefinition place

-- whether the next token is one of a body, or an argument
abbrev pub is_repeated : Option Draft → Reading → Bool
is_repeated (Some draft) reading = true
is_repeated None (Arguments place more parts arguments) = true
is_repeated None reading = false

-- A token that may stand in many places has at most 64 bytes. No token of the plain language that
-- isn't malformed is that long. Without a limit a text could stand for one that fills any memory.
abbrev pub is_too_long : Unfolding → List ℕ → Bool
is_too_long now text = is_repeated now.draft now.reading && nat_lt 64 (length text)

abbrev pub read : Unfolding → Piece → Result Unfolding Fault
read now piece =
    if is_too_long now piece.text then failed BadToken piece.place
    else read_at now piece now.reading

-- the `use` or the `body` without its end
abbrev pub open_use : Reading → Option Place
open_use (BodyName place) = Some place
open_use (UseName place) = Some place
open_use (Arguments place more parts arguments) = Some place
open_use reading = None

abbrev pub left_open : Option Draft → Reading → Option Place
left_open (Some draft) reading = Some draft.start
left_open None reading = open_use reading

abbrev pub unless_open : Option Place → List Piece → Result (List Piece) Fault
unless_open (Some place) pieces = Err (record { kind = OpenDefinition; place = place })
unless_open None pieces = Ok pieces

-- the tokens of a text whose tokens are all read
abbrev pub whole : Unfolding → Result (List Piece) Fault
whole now =
    unless_open (left_open now.draft now.reading) (now.definitions ++ now.text)

abbrev pub go_on : Result Unfolding Fault → (Unfolding → Result (List Piece) Fault)
    → Result (List Piece) Fault
go_on (Ok next) rest = rest next
go_on (Err fault) rest = Err fault

unfoldable pub unfolded_from : Unfolding → List Piece → Result (List Piece) Fault
unfolded_from now [] = whole now
unfolded_from now (piece ∷ pieces) = go_on (read now piece) (λ next. unfolded_from next pieces)

-- The tokens that these stand for: without definitions of bodies, and with the tokens of a body in
-- place of each `use`. Or the first error of a body or a `use`.
abbrev pub unfolded : List Piece → Result (List Piece) Fault
unfolded pieces = unfolded_from first pieces
