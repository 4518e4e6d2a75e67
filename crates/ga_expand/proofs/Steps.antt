-- The tokens of a text are taken one by one.
use Rattle.std.proofs.Common.{◌≡◌, ◌≢◌, ◌∙◌, ◌/◌, ◌%◌, ◌<◌, ℕ, zero, suc, Bool, true, false, not, List, [], ◌∷◌, ◌++◌, length, map, refl, sym, ap, subst, append-nil, append_assoc, Ok, Err, Result, Option, Some, None, arith, lit<}
use Rattle.std.specs.Prelude.{◌==◌, ◌&&◌, IfErr, IfOk, codes, nat_lt, if◌then◌else◌}
use Rattle.std.specs.Fmt.{digit_glyph}
use Rattle.std.specs.List.{list_all}
use Rattle.std.specs.Option.{is_some}
use Rattle.std.specs.Str.{IsAscii, bytes_eq}
use Rattle.std.proofs.lemmas.Bool.{and_from, and_parts}
use Rattle.std.proofs.lemmas.Bool.Decides.{nat_tests}
use Rattle.std.proofs.lemmas.List.Folds.{list_all-append}
use Rattle.ga_word.specs.Hex.{hex_digits}
use Rattle.ga_word.specs.Text.{is_blank}
use Rattle.ga_pack.specs.Model.Text.{Place, texts_of}
use Rattle.ga_pack.specs.Model.Token as model
use Rattle.ga_pack.specs.Model.Token.{Token as Meaning, is_letter, is_letter_or_digit, is_name, is_reserved, meaning_of}
use Rattle.ga_place.specs.Node.{node_named}
use Rattle.ga_place.specs.Side.{Direction}
use Rattle.ga_word.specs.Op.{takes_dest}
use Rattle.ga_source.specs.Token.{place_of}
use Rattle.ga_expand.specs.declared.error.ExpandErrorKind.{ExpandErrorKind}
use Rattle.ga_expand.specs.declared.error.ExpandErrorKind.TheVariants.{BadToken, DuplicateName, Memory, ReservedName}
use Rattle.ga_expand.specs.declared.error.ExpandError.{ExpandError}
use Rattle.ga_expand.specs.declared.expander.Expander.{Expander}
use Rattle.ga_expand.specs.declared.expansion.Expansion.{Expansion}
use Rattle.ga_expand.specs.Error.{Fault, fault_of}
use Rattle.ga_expand.specs.declared.value.Operand.{Operand}
use Rattle.ga_expand.specs.Constants.{Constants, constant_named, constant_of, constant_word, is_kept, is_taken_label}
use Rattle.ga_expand.specs.Expression.{value_of}
use Rattle.ga_expand.specs.Expanding.{Body, Head, Naming, NodeName, Piece, Scope, Stage, Step, Towards, Value, Valuing, address_texts, addressed, all_at, directed, ended, expansion_from, further, in_node, is_ascii, is_const, is_to, item_at, label_in, number_step, number_text, onto, plain_at, same_or, silent, stage_by, start, step_at, valued, with_constant, with_stage, word_at, word_by, word_of, word_step}
use Rattle.ga_expand.specs.Places.{direction_named, port_named, port_towards}
use Rattle.ga_expand.specs.Literal.{literal_of}
use Rattle.ga_expand.specs.declared.piece.Piece as here
use Rattle.ga_expand.specs.inner.Piece.{piece_in}
use Rattle.ga_expand.specs.inner.Making.{Made}
use Rattle.ga_expand.specs.inner.Plain.{is_token, is_written}
use Rattle.ga_expand.specs.inner.Scope.{HasFailed, HasTaken, IsFresh, Progress, scope_of}
use Rattle.ga_expand.specs.inner.Writing.{Finished}
use Rattle.ga_expand.proofs.TokenTexts.{blank_texts}

-- ---- one token more

onto_onto : (done pieces : List Piece) (rest : Result (List Piece) Fault)
    → onto (done ++ pieces) rest ≡ onto done (onto pieces rest)
onto_onto done pieces (Ok others) = ap Ok (append_assoc done pieces others)
onto_onto done pieces (Err fault) = refl

-- a token that is expanded is written as one
digit_below : (d : ℕ) → d < 16 → not (is_blank (digit_glyph true d)) ≡ true
digit_below d h = grind (arith, nat_tests)

digit_ascii : (d : ℕ) → d < 16 → nat_lt (digit_glyph true d) 128 ≡ true
digit_ascii d h = grind (arith, nat_tests)

module _ (p : ℕ → Bool) (each : (d : ℕ) → d < 16 → p (digit_glyph true d) ≡ true) where
  all_digits : (width n : ℕ) → list_all p (hex_digits width n) ≡ true
  unfolding hex_digits
  all_digits zero n = refl
  all_digits (suc width) n =
      let last : p (digit_glyph true (n % 16)) ≡ true = each (n % 16) (omega arith) in
      list_all-append p (hex_digits width (n / 16)) (digit_glyph true (n % 16) ∷ [])
      ∙ and_from (list_all p (hex_digits width (n / 16)))
      (list_all p (digit_glyph true (n % 16) ∷ [])) (all_digits width (n / 16))
      (and_from (p (digit_glyph true (n % 16))) true last refl)

number_written : (n : ℕ) (place : Place)
    → is_written (record { text = number_text n; place = place }) ≡ true
number_written n place =
    rw (
      all_digits (λ c. not (is_blank c)) digit_below 5 n,
      all_digits (λ c. nat_lt c 128) digit_ascii 5 n,
    ) refl

same_written : (text t : List ℕ) (place : Place) (b : Bool) → is_ascii text ≡ b
    → is_token text ≡ true
    → ◌≡◌ {A = Result (List ℕ) ExpandErrorKind} (if b then Ok text else Err BadToken) (Ok t)
    → is_written (record { text = t; place = place }) ≡ true
same_written text t place true ascii is e =
    let same : text ≡ t = cc in
    subst (λ w. is_written (record { text = w; place = place }) ≡ true) same
    (and_from (is_token text) (is_ascii text) is ascii)
same_written text t place false ascii is e = absurd (cc)

as_number_written : (n : ℕ) (t : List ℕ) (place : Place)
    → ◌≡◌ {A = Result (List ℕ) ExpandErrorKind} (Ok (number_text n)) (Ok t)
    → is_written (record { text = t; place = place }) ≡ true
as_number_written n t place e =
    let same : number_text n ≡ t = cc in
    subst (λ w. is_written (record { text = w; place = place }) ≡ true) same
    (number_written n place)

constant_or_same : (text t : List ℕ) (place : Place) (constant : Option Operand)
    → is_token text ≡ true → same_or constant text ≡ Ok t
    → is_written (record { text = t; place = place }) ≡ true
constant_or_same text t place (Some constant) is e =
    as_number_written (constant_word constant) t place e
constant_or_same text t place None is e = same_written text t place (is_ascii text) refl is e

word_by_written : (constants : Constants) (text t : List ℕ) (place : Place)
    (form : Result (Option ℕ) ExpandErrorKind) → is_token text ≡ true
    → word_by constants text form ≡ Ok t
    → is_written (record { text = t; place = place }) ≡ true
word_by_written constants text t place (Err kind) is e = absurd (cc)
word_by_written constants text t place (Ok (Some n)) is e =
    as_number_written n t place e
word_by_written constants text t place (Ok None) is e =
    constant_or_same text t place (constant_named constants text) is e

word_written : (constants : Constants) (text t : List ℕ) (place : Place) → is_token text ≡ true
    → word_of constants text ≡ Ok t → is_written (record { text = t; place = place }) ≡ true
unfolding word_of
word_written constants text t place is e =
    word_by_written constants text t place (literal_of text) is e

-- what a step leaves
record Sound (made : Step) : Type 0 where
  written : list_all is_written made.pieces ≡ true
  fresh : IsFresh made.scope

sound_silent : (scope : Scope) (made : Step) → IsFresh scope → silent scope ≡ Ok made → Sound made
sound_silent scope made h e =
    let same : record { scope = scope; pieces = [] } ≡ made = cc in
    subst Sound same (record { written = refl; fresh = h })

sound_one : (scope : Scope) (piece : Piece) (made : Step) → IsFresh scope
    → is_written piece ≡ true
    → ◌≡◌ {A = Result Step ExpandErrorKind} (Ok (record { scope = scope; pieces = piece ∷ [] }))
    (Ok made) → Sound made
sound_one scope piece made h is e =
    let same : record { scope = scope; pieces = piece ∷ [] } ≡ made = cc in
    subst Sound same
    (record { written = and_from (is_written piece) true is refl; fresh = h })

sound_word : (scope : Scope) (place : Place) (word : Result (List ℕ) ExpandErrorKind)
    (made : Step) → IsFresh scope
    → ((t : List ℕ) → word ≡ Ok t → is_written (record { text = t; place = place }) ≡ true)
    → word_step scope place word ≡ Ok made → Sound made
sound_word scope place (Err kind) made f h e = absurd (cc)
sound_word scope place (Ok t) made f h e =
    sound_one scope (record { text = t; place = place }) made f (h t refl) e

sound_at : (scope : Scope) (piece : Piece) (made : Step) → IsFresh scope
    → is_token piece.text ≡ true → word_at scope piece ≡ Ok made → Sound made
sound_at scope piece made f is e =
    sound_word scope piece.place (word_of scope.constants piece.text) made f
    (λ t g. word_written scope.constants piece.text t piece.place is g) e

sound_number : (scope : Scope) (place : Place) (n : Result ℕ ExpandErrorKind) (made : Step)
    → IsFresh scope → number_step scope place n ≡ Ok made → Sound made
sound_number scope place (Err kind) made f e = absurd (cc)
sound_number scope place (Ok n) made f e =
    sound_one scope (record { text = number_text n; place = place }) made f
    (number_written n place) e

-- what is behind a token of the plain language is no value of a constant
op_fresh : (scope : Scope) (b : Bool) → IsFresh (with_stage scope (if b then Value else Body))
op_fresh scope true = tt
op_fresh scope false = tt

plain_fresh : (scope : Scope) (t : Meaning) → IsFresh (with_stage scope (stage_by t))
plain_fresh scope (model.op o) = op_fresh scope (takes_dest o)
plain_fresh scope model.node = tt
plain_fresh scope model.comma = tt
plain_fresh scope t = tt

sound_plain : (scope : Scope) (piece : Piece) (made : Step) → is_token piece.text ≡ true
    → plain_at scope piece ≡ Ok made → Sound made
sound_plain scope piece made is e =
    sound_at (with_stage scope (stage_by (meaning_of piece.text))) piece made
    (plain_fresh scope (meaning_of piece.text)) is e

sound_first : (scope : Scope) (piece : Piece) (made : Step) (b : Bool)
    → is_token piece.text ≡ true
    → (if b then silent (with_stage scope (Naming piece.place)) else plain_at scope piece)
    ≡ Ok made → Sound made
sound_first scope piece made true is e =
    sound_silent (with_stage scope (Naming piece.place)) made tt e
sound_first scope piece made false is e = sound_plain scope piece made is e

sound_new : (scope : Scope) (text : List ℕ) (place : Place) (made : Step) (o : Option Operand)
    → is_reserved text ≡ false → constant_of scope.constants text ≡ o
    → (if is_some o then Err DuplicateName
    else silent (with_stage scope (Valuing text place))) ≡ Ok made → Sound made
sound_new scope text place made None free new e =
    sound_silent (with_stage scope (Valuing text place)) made (new, free) e
sound_new scope text place made (Some constant) free new e = absurd (cc)

-- a name that isn't kept isn't reserved
not_kept : (text : List ℕ) (b : Bool) → is_reserved text ≡ b → is_kept text ≡ false → b ≡ false
not_kept text false is e = refl
not_kept text true is e = absurd (cc)

sound_named : (scope : Scope) (text : List ℕ) (place : Place) (made : Step) (a b : Bool)
    → is_kept text ≡ b → (if not a then Err BadToken else if b then Err ReservedName
    else if is_some (constant_of scope.constants text) then Err DuplicateName
    else silent (with_stage scope (Valuing text place))) ≡ Ok made → Sound made
sound_named scope text place made false b is e = absurd (cc)
sound_named scope text place made true true is e = absurd (cc)
sound_named scope text place made true false is e =
    sound_new scope text place made (constant_of scope.constants text)
    (not_kept text (is_reserved text) refl is) refl e

sound_valued : (scope : Scope) (name : List ℕ) (value : Result Operand ExpandErrorKind)
    (made : Step) → valued scope name value ≡ Ok made → Sound made
sound_valued scope name (Err kind) made e = absurd (cc)
sound_valued scope name (Ok value) made e =
    sound_silent (with_constant scope name value) made tt e

sound_directed : (scope : Scope) (name : ℕ) (piece : Piece) (made : Step) (o : Option Direction)
    → is_token piece.text ≡ true → directed scope name piece o ≡ Ok made → Sound made
sound_directed scope name piece made None is e = sound_plain scope piece made is e
sound_directed scope name piece made (Some direction) is e =
    sound_number (with_stage scope Body) piece.place (port_towards name direction) made tt e

sound_item : (scope : Scope) (name : ℕ) (piece : Piece) (made : Step) (b : Bool)
    → is_token piece.text ≡ true
    → (if b then silent (with_stage scope (Towards name piece.place))
    else directed scope name piece (direction_named piece.text)) ≡ Ok made → Sound made
sound_item scope name piece made true is e =
    sound_silent (with_stage scope (Towards name piece.place)) made tt e
sound_item scope name piece made false is e =
    sound_directed scope name piece made (direction_named piece.text) is e

sound_body : (scope : Scope) (node : Option ℕ) (piece : Piece) (made : Step)
    → is_token piece.text ≡ true → item_at scope node piece ≡ Ok made → Sound made
sound_body scope None piece made is e = sound_plain scope piece made is e
sound_body scope (Some name) piece made is e =
    sound_item scope name piece made (is_to piece.text) is e

-- a name is written as a token
letter_written : (c : ℕ) → is_letter_or_digit c ≡ true
    → (not (is_blank c) ≡ true) × (nat_lt c 128 ≡ true)
letter_written c h = (grind (arith, nat_tests), grind (arith, nat_tests))

letters_written : (text : List ℕ) → list_all is_letter_or_digit text ≡ true
    → (list_all (λ c. not (is_blank c)) text ≡ true) × (is_ascii text ≡ true)
letters_written [] h = (refl, refl)
letters_written (c ∷ cs) h =
    let two = and_parts (is_letter_or_digit c) (list_all is_letter_or_digit cs) h in
    let first = letter_written c two.0 in
    let more = letters_written cs two.1 in (
      and_from (not (is_blank c)) (list_all (λ c. not (is_blank c)) cs) first.0 more.0,
      and_from (nat_lt c 128) (is_ascii cs) first.1 more.1,
    )

no_comment : (c : ℕ) (cs : List ℕ) → is_letter c ≡ true
    → not (bytes_eq (c ∷ cs) (codes "\\")) ≡ true
no_comment c cs h =
    let other : (c == 92) ≡ false = grind (arith, nat_tests) in
    rw other refl

label_written : (name : List ℕ) (place : Place) → is_name name ≡ true
    → is_written (record { text = name; place = place }) ≡ true
label_written [] place h = absurd (cc)
label_written (c ∷ cs) place h =
    let both = and_parts (is_letter c && nat_lt (length cs) 16)
    (list_all is_letter_or_digit cs) h in
    let first = and_parts (is_letter c) (nat_lt (length cs) 16) both.0 in
    let letter : is_letter_or_digit c ≡ true = rw first.0 refl in
    let all = letters_written (c ∷ cs)
    (and_from (is_letter_or_digit c) (list_all is_letter_or_digit cs) letter both.1) in
    and_from (is_token (c ∷ cs)) (is_ascii (c ∷ cs))
    (and_from (not (bytes_eq (c ∷ cs) (codes "\\"))) (list_all (λ c. not (is_blank c)) (c ∷ cs))
    (no_comment c cs first.0) all.0) all.1

named_label : (text : List ℕ) (label : List ℕ) → label_in text ≡ Some label
    → is_name label ≡ true
named_label [] label e = absurd (cc)
named_label (c ∷ name) label e =
    by ((c == 38) && is_name name && not (is_reserved name)) refl e
  where
    by : (b : Bool) → ((c == 38) && is_name name && not (is_reserved name)) ≡ b
        → ◌≡◌ {A = Option (List ℕ)} (if b then Some name else None) (Some label)
        → is_name label ≡ true
    by true is e =
        let same : name ≡ label = cc in
        let two = and_parts ((c == 38) && is_name name) (not (is_reserved name)) is in
        subst (λ n. is_name n ≡ true) same (and_parts (c == 38) (is_name name) two.0).1
    by false is e = absurd (cc)

address_written : (label : List ℕ) (place : Place) → is_name label ≡ true
    → list_all is_written (all_at place (address_texts label)) ≡ true
address_written label place h =
    let piece : Piece = record { text = label; place = place } in
    and_from (is_written piece) true (label_written label place h) refl

sound_addressed : (scope : Scope) (piece : Piece) (made : Step) (o : Option (List ℕ))
    → label_in piece.text ≡ o → is_token piece.text ≡ true
    → addressed scope piece o ≡ Ok made → Sound made
sound_addressed scope piece made None none is e = sound_body scope scope.node piece made is e
sound_addressed scope piece made (Some label) some is e =
    let step : Step = record {
      scope = with_stage scope Body;
      pieces = all_at piece.place (address_texts label);
    } in
    let same : step ≡ made = cc in
    subst Sound same (record {
      written = address_written label piece.place (named_label piece.text label some);
      fresh = tt;
    })

sound_item_token : (scope : Scope) (piece : Piece) (made : Step) (b : Bool)
    → is_token piece.text ≡ true
    → (if b then Err DuplicateName else addressed scope piece (label_in piece.text)) ≡ Ok made
    → Sound made
sound_item_token scope piece made true is e = absurd (cc)
sound_item_token scope piece made false is e =
    sound_addressed scope piece made (label_in piece.text) refl is e

sound_step : (scope : Scope) (piece : Piece) (stage : Stage) (made : Step)
    → is_token piece.text ≡ true → step_at scope piece stage ≡ Ok made → Sound made
unfolding step_at
sound_step scope piece Head made is e = sound_first scope piece made (is_const piece.text) is e
sound_step scope piece (Naming place) made is e =
    sound_named scope piece.text place made (is_name piece.text) (is_kept piece.text) refl e
sound_step scope piece (Valuing name place) made is e =
    sound_valued scope name (value_of scope.constants piece.text) made e
sound_step scope piece Body made is e =
    sound_item_token scope piece made (is_taken_label scope.constants piece.text) is e
sound_step scope piece NodeName made is e =
    sound_at (in_node scope (node_named piece.text)) piece made tt is e
sound_step scope piece Value made is e = sound_plain scope piece made is e
sound_step scope piece (Towards name place) made is e =
    sound_number (with_stage scope Body) place (port_named name piece.text) made tt e

-- ---- the tokens that are left

pub started : (all : List Piece) (expander : Expander) → scope_of expander ≡ start
    → expander.writer.text.items ≡ [] → expander.writer.origins.items ≡ []
    → Progress all expander all
started all expander at none no_origins = record {
  done = [];
  fresh = subst IsFresh (sym at) tt;
  written = record {
    texts = λ c rest blank. ap (λ (t : List ℕ). texts_of (t ++ c ∷ rest)) none
        ∙ blank_texts c rest blank;
    places = ap (map place_of) no_origins;
    first = λ _. none;
    ascii = subst IsAscii (sym none) (λ i. lit< tt);
  };
  whole = nothing_done (expansion_from (scope_of expander) all)
      ∙ ap (λ s. expansion_from s all) at;
}
  where
    nothing_done : (rest : Result (List Piece) Fault) → onto [] rest ≡ rest
    nothing_done (Ok pieces) = refl
    nothing_done (Err fault) = refl

-- what is left at a token
module _ (all left others : List Piece) (piece : here.Piece)
    (cut : left ≡ piece_in piece ∷ others) where
  pub taken : (before after : Expander) → Progress all before left
      → HasTaken before after (piece_in piece) → Progress all after others
  unfolding expansion_from
  taken before after so_far (made, is, has) =
      let sound = sound_step (scope_of before) (piece_in piece) (scope_of before).stage made
      piece.token is in
      record {
        done = so_far.done ++ made.pieces;
        fresh = subst IsFresh (sym has.scope) sound.fresh;
        written = has.written so_far.done so_far.written sound.written;
        whole = onto_onto so_far.done made.pieces (expansion_from (scope_of after) others)
            ∙ ap (λ (s : Scope). onto so_far.done (onto made.pieces (expansion_from s others)))
            has.scope
            ∙ ap (λ (r : Result Step ExpandErrorKind). onto so_far.done
            (further (piece_in piece).place r (λ next. expansion_from next others))) (sym is)
            ∙ ap (λ (ps : List Piece). onto so_far.done (expansion_from (scope_of before) ps))
            (sym cut)
            ∙ so_far.whole;
      }

  failed_by : (expander : Expander) (fault : Fault) → Progress all expander left
      → HasFailed expander (piece_in piece) fault → expansion_from start all ≡ Err fault
  unfolding expansion_from
  failed_by expander fault so_far (is, at_place) =
      sym so_far.whole
      ∙ ap (λ (ps : List Piece). onto so_far.done (expansion_from (scope_of expander) ps)) cut
      ∙ ap (λ (r : Result Step ExpandErrorKind). onto so_far.done
      (further (piece_in piece).place r (λ next. expansion_from next others))) is
      ∙ ap (λ (place : Place). Err (record { kind = fault.kind; place = place })) at_place

  pub failed : (expander : Expander) → Progress all expander left → (error : ExpandError)
      → (error.kind ≢ Memory → HasFailed expander (piece_in piece) (fault_of error))
      → error.kind ≢ Memory → expansion_from start all ≡ Err (fault_of error)
  failed expander so_far error h some = failed_by expander (fault_of error) so_far (h some)

-- ---- no token is left

module _ (all left : List Piece) (none : left ≡ []) (expander : Expander)
    (so_far : Progress all expander left) where
  at_end : onto so_far.done (ended (scope_of expander).stage) ≡ expansion_from start all
  unfolding expansion_from
  at_end =
      ap (λ (ps : List Piece). onto so_far.done (expansion_from (scope_of expander) ps))
      (sym none) ∙ so_far.whole

  pub made_whole : (result : Result Expansion ExpandError)
      → IfOk result (λ made. (ended (scope_of expander).stage ≡ Ok [])
      × Finished expander.writer made)
      → IfErr result (λ error. error.kind ≢ Memory
      → ended (scope_of expander).stage ≡ Err (fault_of error))
      → Made (expansion_from start all) result
  made_whole (Ok made) (e, finished) h =
      let both = finished so_far.done so_far.written in
      record {
        pieces = so_far.done;
        is = sym at_end ∙ ap (onto so_far.done) e ∙ ap Ok (append-nil so_far.done);
        tokens = both.0;
        places = both.1;
      }
  made_whole (Err error) e h = λ some. sym at_end ∙ ap (onto so_far.done) (h some)
