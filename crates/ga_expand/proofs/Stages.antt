-- What is behind a token of the plain language.
use Rattle.std.proofs.Common.{◌≡◌, ◌∙◌, ℕ, Bool, true, false, List, [], ◌∷◌, ◌++◌, Option, Some, None, refl, sym, ap, subst}
use Rattle.std.specs.Prelude.{◌==◌, ◌&&◌, ◌^◌, codes, nat_lt, if◌then◌else◌}
use Rattle.std.specs.List.{find}
use Rattle.std.specs.Option.{option_map, option_or, unwrap_or}
use Rattle.std.specs.Str.{bytes_eq}
use Rattle.std.proofs.lemmas.Slice.Eq.{bytes_eq-Decides}
use Rattle.ga_word.specs.Op.{name_of, opcodes, takes_dest}
use Rattle.ga_word.specs.declared.op.Op.{Op}
use Rattle.ga_pack.specs.declared.error_kind.SourceErrorKind.{SourceErrorKind}
use Rattle.ga_pack.specs.declared.error_kind.SourceErrorKind.TheVariants as kind
use Rattle.ga_pack.specs.Model.Token as model
use Rattle.ga_pack.specs.Model.Token.{Token, as_fixed, as_hex, as_label, as_name, as_op, fixed, is_name, is_node, label_from, meaning_of, number_named, numeral, ranged}
use Rattle.ga_expand.specs.Expanding.{Body, NodeName, Stage, Value, stage_by}
use Rattle.ga_expand.specs.inner.Role.{mark_stage}

pub of_op : (text : List ℕ) (o : Op) → find (λ o. bytes_eq (name_of o) text) opcodes ≡ Some o
    → meaning_of text ≡ model.op o
unfolding meaning_of
of_op text o e = rw e refl

-- ---- parts of the meaning that open nothing

record Quiet (o : Option Token) : Type 0 where
  quiet : (t : Token) → o ≡ Some t → stage_by t ≡ Body

quiet_none : Quiet None
quiet_none = record { quiet = λ t e. absurd (cc) }

quiet_some : (t : Token) → stage_by t ≡ Body → Quiet (Some t)
quiet_some t h =
    record { quiet = λ s e. let same : t ≡ s = cc in subst (λ u. stage_by u ≡ Body) same h }

quiet_if : (b : Bool) (o : Option Token) → Quiet o → Quiet (if b then o else None)
quiet_if true o h = h
quiet_if false o h = quiet_none

quiet_map : {X : Type 0} (f : X → Token) (o : Option X) → ((x : X) → stage_by (f x) ≡ Body)
    → Quiet (option_map f o)
quiet_map f None h = quiet_none
quiet_map f (Some x) h = quiet_some (f x) (h x)

quiet_either : (a b : Option Token) → Quiet a → Quiet b → Quiet (option_or a b)
quiet_either None b g h = h
quiet_either (Some t) b g h = g

quiet_whole : (o : Option Token) (k : SourceErrorKind) → Quiet o
    → stage_by (unwrap_or o (model.bad k)) ≡ Body
quiet_whole None k g = refl
quiet_whole (Some t) k g = g.quiet t refl

ranged_quiet : (n : ℕ) → stage_by (ranged n) ≡ Body
ranged_quiet n = by (nat_lt n (2 ^ 18))
  where
    by : (b : Bool) → stage_by (if b then model.number n else model.bad kind.NumberRange) ≡ Body
    by true = refl
    by false = refl

hex_quiet : (text : List ℕ) → Quiet (as_hex text)
hex_quiet [] = quiet_none
hex_quiet (c ∷ digits) =
    quiet_if (c == 36) (option_map ranged (numeral 16 digits))
    (quiet_map ranged (numeral 16 digits) ranged_quiet)

label_quiet : (front text : List ℕ) → Quiet (label_from front text)
label_quiet front [] = quiet_none
label_quiet front (c ∷ []) =
    quiet_if ((c == 58) && is_name front) (Some (model.label front))
    (quiet_some (model.label front) refl)
label_quiet front (c ∷ d ∷ cs) = label_quiet (front ++ c ∷ []) (d ∷ cs)

name_quiet : (text : List ℕ) → Quiet (as_name text)
name_quiet text =
    quiet_if (is_name text) (Some (model.name text)) (quiet_some (model.name text) refl)

-- a word or a mark that has this text opens nothing
abbrev AllQuiet : List ℕ → List (List ℕ × Token) → Type 0
AllQuiet text [] = Unit {0}
AllQuiet text (entry ∷ entries) =
    (bytes_eq entry.0 text ≡ true → stage_by entry.1 ≡ Body) × AllQuiet text entries

found_by : (text : List ℕ) (entry : List ℕ × Token) (others : Option (List ℕ × Token)) (b : Bool)
    → bytes_eq entry.0 text ≡ b → (bytes_eq entry.0 text ≡ true → stage_by entry.1 ≡ Body)
    → Quiet (option_map (λ e. e.1) others)
    → Quiet (option_map (λ e. e.1) (if b then Some entry else others))
found_by text entry others true e h more = quiet_some entry.1 (h e)
found_by text entry others false e h more = more

found_quiet : (text : List ℕ) (entries : List (List ℕ × Token)) → AllQuiet text entries
    → Quiet (option_map (λ e. e.1) (find (λ e. bytes_eq e.0 text) entries))
found_quiet text [] h = quiet_none
found_quiet text (entry ∷ entries) h =
    found_by text entry (find (λ e. bytes_eq e.0 text) entries) (bytes_eq entry.0 text) refl h.0
    (found_quiet text entries h.1)

other_text : (text word : List ℕ) → bytes_eq text word ≡ false → bytes_eq word text ≡ true → ⊥
other_text text word e f =
    let same : word ≡ text = (bytes_eq-Decides word text).0 f in
    let is : bytes_eq text word ≡ true = (bytes_eq-Decides text word).1 (sym same) in
    true_is_false (sym is ∙ e)
  where
    true_is_false : true ≡ false → ⊥
    true_is_false e = cc

fixed_quiet : (text : List ℕ) → bytes_eq text (codes "node") ≡ false
    → bytes_eq text (codes ",") ≡ false → Quiet (as_fixed text)
fixed_quiet text no_node no_comma =
    found_quiet text fixed (
      λ e. absurd (other_text text (codes "node") no_node e),
      (
        λ e. refl,
        (
          λ e. refl,
          (
            λ e. refl,
            (
              λ e. refl,
              (λ e. absurd (other_text text (codes ",") no_comma e), (λ e. refl, tt)),
            ),
          ),
        ),
      ),
    )

other_quiet : (text : List ℕ) → find (λ o. bytes_eq (name_of o) text) opcodes ≡ None
    → bytes_eq text (codes "node") ≡ false → bytes_eq text (codes ",") ≡ false
    → stage_by (meaning_of text) ≡ Body
unfolding meaning_of
other_quiet text e no_node no_comma =
    let no_op : as_op text ≡ None = ap (option_map model.op) e in
    quiet_whole
    (option_or (as_op text) (option_or (option_map model.number (number_named text))
    (option_or (as_fixed text) (option_or (option_map ranged (numeral 10 text))
    (option_or (as_hex text) (option_or (as_label text) (as_name text))))))) kind.BadToken
    (quiet_either (as_op text) _ (subst Quiet (sym no_op) quiet_none)
    (quiet_either (option_map model.number (number_named text)) _
    (quiet_map model.number (number_named text) (λ n. refl))
    (quiet_either (as_fixed text) _ (fixed_quiet text no_node no_comma)
    (quiet_either (option_map ranged (numeral 10 text)) _
    (quiet_map ranged (numeral 10 text) ranged_quiet)
    (quiet_either (as_hex text) _ (hex_quiet text)
    (quiet_either (as_label text) (as_name text) (label_quiet [] text) (name_quiet text)))))))

node_means : mark_stage (codes "node") ≡ stage_by (meaning_of (codes "node"))
unfolding meaning_of
node_means = refl

comma_means : mark_stage (codes ",") ≡ stage_by (meaning_of (codes ","))
unfolding meaning_of
comma_means = refl

same_text : (text word : List ℕ) → mark_stage word ≡ stage_by (meaning_of word)
    → bytes_eq text word ≡ true → mark_stage text ≡ stage_by (meaning_of text)
same_text text word h e =
    subst (λ t. mark_stage t ≡ stage_by (meaning_of t))
    (sym ((bytes_eq-Decides text word).0 e)) h

pub of_no_op : (text : List ℕ) → find (λ o. bytes_eq (name_of o) text) opcodes ≡ None
    → mark_stage text ≡ stage_by (meaning_of text)
of_no_op text e = by (bytes_eq text (codes "node")) (bytes_eq text (codes ",")) refl refl
  where
    by : (a b : Bool) → bytes_eq text (codes "node") ≡ a → bytes_eq text (codes ",") ≡ b
        → mark_stage text ≡ stage_by (meaning_of text)
    by true b f g = same_text text (codes "node") node_means f
    by false true f g = same_text text (codes ",") comma_means g
    by false false f g = rw (f, g) (sym (other_quiet text e f g))

-- whether the next token is the name of a node
abbrev pub is_naming : Stage → Bool
is_naming NodeName = true
is_naming stage = false

op_naming : (b : Bool) → is_naming (if b then Value else Body) ≡ false
op_naming true = refl
op_naming false = refl

pub naming : (t : Token) → is_node t ≡ is_naming (stage_by t)
naming (model.op o) = sym (op_naming (takes_dest o))
naming model.node = refl
naming model.comma = refl
naming t = refl

not_node : (text : List ℕ) → bytes_eq text (codes "node") ≡ false
    → is_naming (mark_stage text) ≡ false
not_node text e = rw e (op_naming (bytes_eq text (codes ",")))

other_node : (text : List ℕ) (o : Option Op) → bytes_eq text (codes "node") ≡ false
    → find (λ o. bytes_eq (name_of o) text) opcodes ≡ o → false ≡ is_node (meaning_of text)
other_node text (Some o) e f = sym (ap is_node (of_op text o f))
other_node text None e f =
    sym (naming (meaning_of text) ∙ ap is_naming (sym (of_no_op text f)) ∙ not_node text e)

node_is_node : is_node (meaning_of (codes "node")) ≡ true
unfolding meaning_of
node_is_node = refl

-- a token is `node` by its text
pub node_text : (text : List ℕ)
    → bytes_eq text (codes "node") ≡ is_node (meaning_of text)
node_text text = by (bytes_eq text (codes "node")) refl
  where
    by : (b : Bool) → bytes_eq text (codes "node") ≡ b → b ≡ is_node (meaning_of text)
    by true e =
        sym (ap (λ t. is_node (meaning_of t)) ((bytes_eq-Decides text (codes "node")).0 e)
        ∙ node_is_node)
    by false e = other_node text (find (λ o. bytes_eq (name_of o) text) opcodes) e refl
