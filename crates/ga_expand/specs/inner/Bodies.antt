-- Shared bodies and what is read of a text, as the code has them.
use Rattle.std.specs.Prelude.{◌≡◌, ◌≢◌, ℕ, List, map, option_map, slice_get, Result, Ok, Err}
use Rattle.std.specs.Option.{option_and_then, unwrap_or}
use Rattle.std.specs.Borrow.{Bor}
use Rattle.ga_source.specs.Token.{place_of}
use Rattle.ga_expand.specs.declared.bodies.Part as part
use Rattle.ga_expand.specs.declared.bodies.SharedBody as body
use Rattle.ga_expand.specs.declared.error.ExpandError.{ExpandError}
use Rattle.ga_expand.specs.declared.error.ExpandErrorKind.TheVariants.{Memory}
use Rattle.ga_expand.specs.declared.unfolder.Draft as draft
use Rattle.ga_expand.specs.declared.unfolder.Reading as reading
use Rattle.ga_expand.specs.declared.role.Role.{Role}
use Rattle.ga_expand.specs.declared.unfolder.Reading.TheVariants as at
use Rattle.ga_expand.specs.declared.unfolder.Unfolder.{Unfolder}
use Rattle.ga_expand.specs.Bodies.{Arguments, BodyName, ConstantName, ConstantValue, Definitions, Draft, Parameters, Part, Reading, SharedBody, Tokens, Unfolding, UseName, used}
use Rattle.ga_expand.specs.Error.{Fault, fault_of}
use Rattle.ga_expand.specs.inner.Piece.{piece_in}
use Rattle.ga_expand.specs.inner.Role.{role_stage}

-- the names of constants or of parameters
abbrev pub texts_in : List (Bor (List ℕ)) → List (List ℕ)
texts_in names = map (λ name. name.now) names

abbrev pub part_in : part.Part → Part
part_in part = record { piece = piece_in part.piece; parameter = part.parameter }

abbrev pub body_in : body.SharedBody → SharedBody
body_in body = record {
  name = body.name.now;
  arity = body.arity;
  parts = map part_in body.parts.items;
}

abbrev pub draft_in : draft.Draft → Draft
draft_in draft = record { start = place_of draft.start; name = draft.name.now }

-- the argument, if it is a parameter's name
abbrev pub filled_in : List part.Part → part.Part → part.Part
filled_in arguments part = unwrap_or (option_and_then (slice_get arguments) part.parameter) part

-- what the next token is for, by the body whose arguments are read and those that it has
abbrev pub reading_in : List part.Part → List part.Part → reading.Reading → Reading
reading_in parts arguments at.Definitions = Definitions
reading_in parts arguments at.ConstantName = ConstantName
reading_in parts arguments at.ConstantValue = ConstantValue
reading_in parts arguments (at.BodyName place) = BodyName (place_of place)
reading_in parts arguments (at.Parameters line) = Parameters line
reading_in parts arguments (at.Tokens role) = Tokens (role_stage role)
reading_in parts arguments (at.UseName place) = UseName (place_of place)
reading_in parts arguments (at.Arguments place more) =
    Arguments (place_of place) more (map part_in parts) (map part_in arguments)

abbrev pub state_of : Unfolder → Unfolding
state_of unfolder = record {
  constants = texts_in unfolder.constants.items;
  definitions = map piece_in unfolder.definitions.items;
  bodies = map body_in unfolder.bodies.items;
  left = unfolder.left;
  draft = option_map draft_in unfolder.draft;
  parameters = texts_in unfolder.parameters.items;
  parts = map part_in unfolder.parts.items;
  text = map piece_in unfolder.text.items;
  reading = reading_in unfolder.used.items unfolder.arguments.items unfolder.reading;
}

-- a token is read, unless memory was refused
abbrev pub Read : {A : Type 0} → Unfolder → Result Unfolding Fault → Result A ExpandError → Type 0
Read after answer (Ok done) = answer ≡ Ok (state_of after)
Read after answer (Err error) = error.kind ≢ Memory → answer ≡ Err (fault_of error)

-- the tokens of a `use` are added, and the answer is what is behind them, unless memory was refused
abbrev pub Used : {E : Type 0} → Unfolder → Unfolder → Result Role E → Type 0
Used before after (Ok role) =
    state_of (record after { reading = at.Tokens role })
    ≡ used (state_of before) (map part_in before.used.items) (map part_in before.arguments.items)
Used before after (Err refused) = Unit {0}
