-- How far the code has read a text.
use Rattle.std.specs.Prelude.{◌≡◌, ◌≢◌, ℕ, false, true, List, ◌++◌, Result, Ok, Err, None}
use Rattle.std.specs.List.{list_all}
use Rattle.ga_pack.specs.Model.Token.{is_reserved}
use Rattle.ga_source.specs.Token.{place_of}
use Rattle.ga_expand.specs.declared.error.ExpandErrorKind.{ExpandErrorKind}
use Rattle.ga_expand.specs.declared.error.ExpandErrorKind.TheVariants.{Memory}
use Rattle.ga_expand.specs.declared.expander.Expander.{Expander}
use Rattle.ga_expand.specs.declared.expander.Stage as here
use Rattle.ga_expand.specs.declared.expander.Stage.TheVariants as at
use Rattle.ga_expand.specs.Constants.{Constants, constant_of}
use Rattle.ga_expand.specs.Error.{Fault}
use Rattle.ga_expand.specs.Expanding.{Body, Head, Naming, NodeName, Piece, Scope, Stage, Step, Towards, Value, Valuing, expansion_from, onto, start, step, word_of}
use Rattle.ga_expand.specs.inner.Constants.{constants_in}
use Rattle.ga_expand.specs.inner.Plain.{is_written}
use Rattle.ga_expand.specs.inner.Writing.{HasAdded, Written}

abbrev pub stage_of : here.Stage → Stage
stage_of at.Head = Head
stage_of (at.Naming place) = Naming (place_of place)
stage_of (at.Valuing name place) = Valuing name.bytes (place_of place)
stage_of at.Body = Body
stage_of at.NodeName = NodeName
stage_of at.Value = Value
stage_of (at.Towards node place) = Towards node (place_of place)

abbrev pub scope_of : Expander → Scope
scope_of expander = record {
  constants = constants_in expander.constants.values.entries;
  node = expander.node;
  stage = stage_of expander.stage;
}

-- what a token expands to is written
abbrev pub HasWritten : Expander → Expander → Piece → Type 0
HasWritten before after piece =
    (text : List ℕ) × (word_of (scope_of before).constants piece.text ≡ Ok text)
    × HasAdded before.writer after.writer (record { text = text; place = piece.place })

-- a step is made, and what it expands to is written
pub record HasMade (before after : Expander) (made : Step) : Type 0 where
  pub scope : scope_of after ≡ made.scope
  pub written : (pieces : List Piece) → Written before.writer pieces
      → list_all is_written made.pieces ≡ true → Written after.writer (pieces ++ made.pieces)

-- the answer to a token, unless memory was refused
abbrev pub Took : {A : Type 0} → Expander → Expander → Result Step ExpandErrorKind
    → Result A ExpandErrorKind → Type 0
Took before after answer (Ok done) = (made : Step) × (answer ≡ Ok made) × HasMade before after made
Took before after answer (Err kind) = kind ≢ Memory → answer ≡ Err kind

abbrev pub HasTaken : Expander → Expander → Piece → Type 0
HasTaken before after piece =
    (made : Step) × (step (scope_of before) piece ≡ Ok made) × HasMade before after made

abbrev pub HasFailed : Expander → Piece → Fault → Type 0
HasFailed before piece fault =
    (step (scope_of before) piece ≡ Err fault.kind) × (piece.place ≡ fault.place)

-- no constant has the name of one whose value is still to come, nor has an opcode
abbrev pub IsFreshAt : Constants → Stage → Type 0
IsFreshAt constants (Valuing name place) =
    (constant_of constants name ≡ None) × (is_reserved name ≡ false)
IsFreshAt constants stage = Unit {0}

abbrev pub IsFresh : Scope → Type 0
IsFresh scope = IsFreshAt scope.constants scope.stage

-- what the tokens so far of all expand to is written, and these tokens are left
pub record Progress (all : List Piece) (expander : Expander) (left : List Piece) : Type 0 where
  pub done : List Piece
  pub fresh : IsFresh (scope_of expander)
  pub written : Written expander.writer done
  pub whole : onto done (expansion_from (scope_of expander) left) ≡ expansion_from start all
