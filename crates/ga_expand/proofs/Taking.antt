-- What the tokens of a definition change.
use Rattle.std.proofs.Common.{◌≡◌, ◌∙◌, ℕ, Bool, true, false, List, [], ◌++◌, Option, Some, None, refl, sym, ap, subst, append-nil, ◌∷◌}
use Rattle.std.specs.Prelude.{Err, Ok, if◌then◌else◌}
use Rattle.std.specs.Option.{is_some}
use Rattle.std.proofs.lemmas.Bool.{and_parts}
use Rattle.ga_pack.specs.Model.Text.{Place}
use Rattle.ga_pack.specs.Model.Token.{is_name}
use Rattle.ga_expand.specs.declared.error.ExpandErrorKind.TheVariants.{DuplicateName}
use Rattle.ga_expand.specs.declared.expander.Expander.{Expander}
use Rattle.ga_expand.specs.declared.writing.Writer.{Writer}
use Rattle.ga_expand.specs.Constants.{constant_of, is_kept, is_taken_label}
use Rattle.ga_expand.specs.Expanding.{Body, Head, Naming, Piece, Scope, Step, Valuing, Towards, addressed, is_const, is_to, item_at, label_in, named, plain_at, silent, step_at, with_stage, word_at, word_of, word_step}
use Rattle.ga_expand.specs.inner.Plain.{is_written}
use Rattle.ga_expand.specs.inner.Scope.{HasMade, HasWritten, scope_of}
use Rattle.ga_expand.specs.inner.Writing.{Written}

pub nothing_more : (writer : Writer) (pieces : List Piece) → Written writer pieces
    → Written writer (pieces ++ [])
nothing_more writer pieces w = subst (Written writer) (sym (append-nil pieces)) w

named_by : (scope : Scope) (text name : List ℕ) (place : Place) (b : Bool)
    → is_name text ≡ b → ◌≡◌ {A = Option (List ℕ)} (Some name) (if b then Some text else None)
    → is_kept text ≡ false → is_some (constant_of scope.constants name) ≡ false
    → named scope text place ≡ silent (with_stage scope (Valuing name place))
named_by scope text name place true is e kept new =
    let same : name ≡ text = cc in
    let fresh : is_some (constant_of scope.constants text) ≡ false =
    ap (λ (t : List ℕ). is_some (constant_of scope.constants t)) (sym same) ∙ new in
    rw (is, kept, fresh)
    (ap (λ (t : List ℕ). silent (with_stage scope (Valuing t place))) (sym same))
named_by scope text name place false is e kept new = absurd (cc)

pub named_ok : (scope : Scope) (text name : List ℕ) (place : Place)
    → ◌≡◌ {A = Option (List ℕ)} (Some name) (if is_name text then Some text else None)
    → is_kept text ≡ false → is_some (constant_of scope.constants name) ≡ false
    → named scope text place ≡ silent (with_stage scope (Valuing name place))
named_ok scope text name place e kept new =
    named_by scope text name place (is_name text) refl e kept new

pub begins : (scope : Scope) (piece : Piece) → is_const piece.text ≡ true
    → step_at scope piece Head ≡ silent (with_stage scope (Naming piece.place))
unfolding step_at
begins scope piece e = rw e refl

pub begins_none : (scope : Scope) (piece : Piece) → is_const piece.text ≡ false
    → step_at scope piece Head ≡ plain_at scope piece
unfolding step_at
begins_none scope piece e = rw e refl

pub taken_label : (scope : Scope) (piece : Piece)
    → is_taken_label scope.constants piece.text ≡ true
    → step_at scope piece Body ≡ Err DuplicateName
unfolding step_at
taken_label scope piece e = rw e refl

pub free_label : (scope : Scope) (piece : Piece)
    → is_taken_label scope.constants piece.text ≡ false
    → step_at scope piece Body ≡ addressed scope piece (label_in piece.text)
unfolding step_at
free_label scope piece e = rw e refl

-- a token is written, and then the scope changes
pub word_taken : (before after : Expander) (piece : Piece) (next : Scope)
    → next.constants ≡ (scope_of before).constants → scope_of after ≡ next
    → HasWritten before after piece
    → (made : Step) × (word_at next piece ≡ Ok made) × HasMade before after made
word_taken before after piece next same is (text, word, add) = (
  record { scope = next; pieces = record { text = text; place = piece.place } ∷ [] },
  ap (λ constants. word_step next piece.place (word_of constants piece.text)) same
      ∙ ap (word_step next piece.place) word,
  record {
    scope = is;
    written = λ pieces w all. add pieces w
        (and_parts (is_written (record { text = text; place = piece.place })) true all).0;
  },
)

pub to_begins : (scope : Scope) (node : Option ℕ) (name : ℕ) (piece : Piece) → node ≡ Some name
    → is_to piece.text ≡ true
    → item_at scope node piece ≡ silent (with_stage scope (Towards name piece.place))
to_begins scope None name piece is e = absurd (cc)
to_begins scope (Some other) name piece is e =
    let same : other ≡ name = cc in
    rw e (ap (λ (n : ℕ). silent (with_stage scope (Towards n piece.place))) same)
