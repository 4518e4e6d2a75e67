-- No constant has the name of an opcode, so that opcodes stay as they are.
use Rattle.std.proofs.Common.{◌≡◌, ◌∙◌, ℕ, Bool, true, false, not, List, [], ◌∷◌, Option, Some, None, refl, sym, ap, subst, Ok, Err, Result}
use Rattle.std.specs.Prelude.{OnErr, OnOk, if◌then◌else◌}
use Rattle.std.specs.List.{find}
use Rattle.std.specs.Str.{bytes_eq}
use Rattle.std.proofs.lemmas.Bool.{and_from, and_parts}
use Rattle.std.proofs.lemmas.Slice.Eq.{bytes_eq-Decides}
use Rattle.indexmap.specs.IndexMap.{insert_entry}
use Rattle.ga_word.specs.Op.{name_of, opcodes}
use Rattle.ga_word.specs.declared.op.Op.{Op}
use Rattle.ga_pack.specs.Model.Token.{is_name, is_reserved}
use Rattle.ga_source.specs.Name.{NameText}
use Rattle.ga_expand.specs.declared.error.ExpandErrorKind.{ExpandErrorKind}
use Rattle.ga_expand.specs.declared.value.Operand.{Operand}
use Rattle.ga_expand.specs.Constants.{Constants, constant_named, constant_of}
use Rattle.ga_expand.specs.Expanding.{word_by, word_of}
use Rattle.ga_expand.specs.Literal.{literal_of}
use Rattle.ga_expand.specs.inner.Constants.{are_free, constants_in}
use Rattle.ga_expand.specs.inner.Role.{op_named}
use Rattle.ga_expand.proofs.PlainTexts.{name_stays, none_named}

-- ---- no constant has a reserved name

free_or_inserted : (name : NameText) (value : Operand) (entry : NameText × Operand)
    (entries : List (NameText × Operand)) (b : Bool) → are_free (entry ∷ entries) ≡ true
    → are_free (insert_entry (λ one other. bytes_eq one.bytes other.bytes) entries name value)
    ≡ true
    → are_free (if b then (entry.0, value) ∷ entries else entry
    ∷ insert_entry (λ one other. bytes_eq one.bytes other.bytes) entries name value) ≡ true
free_or_inserted name value entry entries true all more = all
free_or_inserted name value entry entries false all more =
    and_from (not (is_reserved entry.0.bytes))
    (are_free (insert_entry (λ one other. bytes_eq one.bytes other.bytes) entries name value))
    (and_parts (not (is_reserved entry.0.bytes)) (are_free entries) all).0 more

stay_free : (name : NameText) (value : Operand) (entries : List (NameText × Operand))
    → is_reserved name.bytes ≡ false → are_free entries ≡ true
    → are_free (insert_entry (λ one other. bytes_eq one.bytes other.bytes) entries name value)
    ≡ true
stay_free name value [] free all = and_from (not (is_reserved name.bytes)) true (ap not free) refl
stay_free name value (entry ∷ entries) free all =
    free_or_inserted name value entry entries (bytes_eq name.bytes entry.0.bytes) all
    (stay_free name value entries free
    (and_parts (not (is_reserved entry.0.bytes)) (are_free entries) all).1)

pub free_after : {A B : Type 0} (result : Result A B) (name : NameText) (value : Operand)
    (before after : List (NameText × Operand)) → is_reserved name.bytes ≡ false
    → are_free before ≡ true
    → OnOk result (after
    ≡ insert_entry (λ one other. bytes_eq one.bytes other.bytes) before name value)
    → OnErr result (after ≡ before) → are_free after ≡ true
free_after (Ok old) name value before after free all ok err =
    ap are_free ok ∙ stay_free name value before free all
free_after (Err refused) name value before after free all ok err = ap are_free err ∙ all

other_name : (text name : List ℕ) (b : Bool) → bytes_eq text name ≡ b → is_reserved text ≡ true
    → not (is_reserved name) ≡ true → b ≡ false
other_name text name false e is free = refl
other_name text name true e is free =
    let same : text ≡ name = (bytes_eq-Decides text name).0 e in
    let reserved : is_reserved name ≡ true = subst (λ t. is_reserved t ≡ true) same is in
    let wrong : false ≡ true = sym (ap not reserved) ∙ free in
    absurd (cc)

none_of : (text : List ℕ) (entries : List (NameText × Operand)) → are_free entries ≡ true
    → is_reserved text ≡ true → constant_of (constants_in entries) text ≡ None
none_of text [] all is = refl
none_of text (entry ∷ entries) all is =
    let two = and_parts (not (is_reserved entry.0.bytes)) (are_free entries) all in
    ap (λ (b : Bool). if b then Some entry.1 else constant_of (constants_in entries) text)
    (other_name text entry.0.bytes (bytes_eq text entry.0.bytes) refl is two.0)
    ∙ none_of text entries two.1 is

no_constant : (text : List ℕ) (entries : List (NameText × Operand)) → are_free entries ≡ true
    → is_reserved text ≡ true → constant_named (constants_in entries) text ≡ None
no_constant text entries all is =
    ap (λ (o : Option Operand). if is_name text then o else None) (none_of text entries all is)
    ∙ none_named text

-- ---- opcodes

op_reserved : (text : List ℕ) (o : Op) → op_named text ≡ Some o → is_reserved text ≡ true
unfolding is_reserved
op_reserved text o e = rw e refl

first_or_later : (text : List ℕ) (first : Op) (ops : List Op) (o : Op) (b : Bool)
    → bytes_eq (name_of first) text ≡ b
    → (if b then Some first else find (λ o. bytes_eq (name_of o) text) ops) ≡ Some o
    → (find (λ o. bytes_eq (name_of o) text) ops ≡ Some o → name_of o ≡ text) → name_of o ≡ text
first_or_later text first ops o true is e later =
    let same : first ≡ o = cc in
    ap name_of (sym same) ∙ (bytes_eq-Decides (name_of first) text).0 is
first_or_later text first ops o false is e later = later e

found_name : (text : List ℕ) (ops : List Op) (o : Op)
    → find (λ o. bytes_eq (name_of o) text) ops ≡ Some o → name_of o ≡ text
found_name text [] o e = absurd (cc)
found_name text (first ∷ ops) o e =
    first_or_later text first ops o (bytes_eq (name_of first) text) refl e
    (λ later. found_name text ops o later)

-- a token that no constant names is what it is without constants
without_constant : (constants : Constants) (text : List ℕ)
    (form : Result (Option ℕ) ExpandErrorKind) → constant_named constants text ≡ None
    → word_by constants text form ≡ word_by [] text form
without_constant constants text (Err kind) e = refl
without_constant constants text (Ok (Some n)) e = refl
without_constant constants text (Ok None) e = rw (e, none_named text) refl

pub op_stays : (text : List ℕ) (o : Op) (entries : List (NameText × Operand))
    → op_named text ≡ Some o → are_free entries ≡ true
    → word_of (constants_in entries) text ≡ Ok text
unfolding word_of
op_stays text o entries e all =
    without_constant (constants_in entries) text (literal_of text)
    (no_constant text entries all (op_reserved text o e))
    ∙ subst (λ t. word_of [] t ≡ Ok t) (found_name text opcodes o e) (name_stays o)
