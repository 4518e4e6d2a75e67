-- A text of the plain language expands to itself.
use Rattle.std.proofs.Common.{◌≡◌, ◌∙◌, ◌/◌, ◌%◌, ℕ, Bool, true, false, not, List, [], ◌∷◌, ◌++◌, length, map, refl, sym, ap, subst, append-nil, append_assoc, Ok, Option, Result, Some, None, arith, eqb-true, suc}
use Rattle.std.specs.Prelude.{◌==◌, ◌&&◌, ◌^◌, codes, nat_le, nat_lt, if◌then◌else◌}
use Rattle.std.specs.Char.{is_digit}
use Rattle.std.specs.List.{find, list_all, list_any}
use Rattle.std.specs.Option.{is_some, option_map, option_map_or, option_or, unwrap_or}
use Rattle.std.specs.Str.{bytes_eq}
use Rattle.std.specs.Str.Parse.{digits_value}
use Rattle.std.proofs.lemmas.Bool.{and_from, and_parts, not-true}
use Rattle.std.proofs.lemmas.Bool.Decides.{nat_tests}
use Rattle.std.proofs.lemmas.List.Folds.{list_all-append}
use Rattle.std.proofs.lemmas.Slice.Eq.{bytes_eq-Decides}
use Rattle.ga_word.specs.Op.{name_of, opcodes, takes_dest}
use Rattle.ga_word.specs.declared.op.Op.{Op}
use Rattle.ga_word.specs.declared.op.Op.TheVariants.{Jump}
use Rattle.ga_pack.specs.declared.error_kind.SourceErrorKind.{SourceErrorKind}
use Rattle.ga_pack.specs.declared.error_kind.SourceErrorKind.TheVariants as kind
use Rattle.ga_pack.specs.Model.Program.{IsProgram, tokens_of}
use Rattle.ga_pack.specs.Model.Source as source
use Rattle.ga_pack.specs.Model.Text.{Lexeme, lexemes, texts_of}
use Rattle.ga_pack.specs.Followers.{is_followed}
use Rattle.ga_pack.specs.Slots.{dest_bound, op_fits}
use Rattle.ga_place.specs.Node.{node_named}
use Rattle.ga_pack.specs.Model.Token as model
use Rattle.ga_pack.specs.Model.Token.{Token, as_fixed, as_hex, as_label, as_name, as_node, as_op, fixed, is_letter, is_letter_or_digit, is_name, is_node, is_reserved, label_from, meaning_at, meaning_of, meanings, number_named}
use Rattle.ga_expand.specs.declared.value.Operand.{Operand}
use Rattle.ga_expand.specs.Constants.{Constants, constant_named, constant_word, is_taken_label, label_defined}
use Rattle.ga_expand.specs.Expanding.{Body, Head, Naming, NodeName, Piece, Scope, Stage, Towards, Value, Valuing, expansion_from, further, is_ascii, is_const, is_to, item_at, label_in, number_text, onto, piece_at, pieces_of, same_or, stage_by, start, step_at, word_at, word_of, word_step}
use Rattle.ga_expand.specs.Bodies as bodies
use Rattle.ga_expand.specs.Bodies.{Tokens, Unfolding, first, is_body, is_use, read_at, unfolded, unfolded_from}
use Rattle.ga_expand.specs.Error.{Fault}
use Rattle.ga_expand.specs.NodeLists.{is_list, spread, spread_from}
use Rattle.ga_expand.specs.Texts.{expanded, expansion}
use Rattle.ga_expand.specs.Places.{direction_named}
use Rattle.ga_expand.specs.Laws.{PlainStays}
use Rattle.ga_expand.specs.Literal.{as_character, literal_of}
use Rattle.ga_expand.proofs.Stages.{is_naming, naming}
use Rattle.ga_expand.proofs.Unchanged.{SpreadsAt, item_spreads, name_spreads}
use Rattle.ga_expand.specs.Sides.{as_sides}
use Rattle.ga_expand.specs.inner.Plain.{is_plain_byte}

-- ---- characters with which no form of the larger language begins

letter_is_plain : (c : ℕ) → is_letter_or_digit c ≡ true → is_plain_byte c ≡ true
letter_is_plain c h = grind (arith, nat_tests)

decimal_is_plain : (c : ℕ) → is_digit c 10 ≡ true → is_plain_byte c ≡ true
decimal_is_plain c h = grind (arith, nat_tests)

hex_is_plain : (c : ℕ) → is_digit c 16 ≡ true → is_plain_byte c ≡ true
hex_is_plain c h = grind (arith, nat_tests)

all_plain : (p : ℕ → Bool) → ((c : ℕ) → p c ≡ true → is_plain_byte c ≡ true) → (text : List ℕ)
    → list_all p text ≡ true → list_all is_plain_byte text ≡ true
all_plain p each [] h = refl
all_plain p each (c ∷ cs) h =
    let two = and_parts (p c) (list_all p cs) h in
    and_from (is_plain_byte c) (list_all is_plain_byte cs) (each c two.0)
    (all_plain p each cs two.1)

record PlainByte (c : ℕ) : Type 0 where
  small : nat_lt c 128 ≡ true
  no_minus : (c == 45) ≡ false
  no_percent : (c == 37) ≡ false
  no_quote : (c == 39) ≡ false
  no_bar : (c == 124) ≡ false

plain_byte : (c : ℕ) → is_plain_byte c ≡ true → PlainByte c
plain_byte c h =
    let four = and_parts (nat_lt c 128 && not (c == 45) && not (c == 37) && not (c == 39))
    (not (c == 124)) h in
    let three = and_parts (nat_lt c 128 && not (c == 45) && not (c == 37)) (not (c == 39)) four.0 in
    let two = and_parts (nat_lt c 128 && not (c == 45)) (not (c == 37)) three.0 in
    let one = and_parts (nat_lt c 128) (not (c == 45)) two.0 in
    record {
      small = one.0;
      no_minus = not-true (c == 45) one.1;
      no_percent = not-true (c == 37) two.1;
      no_quote = not-true (c == 39) three.1;
      no_bar = not-true (c == 124) four.1;
    }

plain_ascii : (text : List ℕ) → list_all is_plain_byte text ≡ true → is_ascii text ≡ true
plain_ascii [] h = refl
plain_ascii (c ∷ cs) h =
    let two = and_parts (is_plain_byte c) (list_all is_plain_byte cs) h in
    and_from (nat_lt c 128) (is_ascii cs) (plain_byte c two.0).small (plain_ascii cs two.1)

no_character : (c : ℕ) (cs : List ℕ) → (c == 39) ≡ false → as_character (c ∷ cs) ≡ None
no_character c [] e = refl
no_character c (d ∷ []) e = refl
no_character c (d ∷ f ∷ []) e = rw e refl
no_character c (d ∷ f ∷ g ∷ cs) e = refl

no_bars : (text : List ℕ) → list_all is_plain_byte text ≡ true
    → list_any (λ c. c == 124) text ≡ false
no_bars [] h = refl
no_bars (c ∷ cs) h =
    let two = and_parts (is_plain_byte c) (list_all is_plain_byte cs) h in
    rw ((plain_byte c two.0).no_bar, no_bars cs two.1) refl

no_sides : (text : List ℕ) → list_all is_plain_byte text ≡ true → as_sides text ≡ None
no_sides text h = rw (no_bars text h) refl

no_literal : (c : ℕ) (cs : List ℕ) → list_all is_plain_byte (c ∷ cs) ≡ true
    → literal_of (c ∷ cs) ≡ Ok None
unfolding literal_of
no_literal c cs h =
    let p = plain_byte c (and_parts (is_plain_byte c) (list_all is_plain_byte cs) h).0 in
    rw (p.no_minus, p.no_percent, no_character c cs p.no_quote, no_sides (c ∷ cs) h) refl

-- such a token is written as it is, unless it is the name of a constant
pub plain_word : (constants : Constants) (text : List ℕ) → list_all is_plain_byte text ≡ true
    → word_of constants text
    ≡ Ok (option_map_or (λ constant. number_text (constant_word constant))
    (constant_named constants text) text)
unfolding word_of literal_of
plain_word constants [] h = refl
plain_word constants (c ∷ cs) h = rw (no_literal c cs h) (by (constant_named constants (c ∷ cs)))
  where
    by : (o : Option Operand) → same_or o (c ∷ cs)
        ≡ Ok (option_map_or (λ constant. number_text (constant_word constant)) o (c ∷ cs))
    by (Some constant) = refl
    by None = rw (plain_ascii (c ∷ cs) h) refl

pub none_named : (text : List ℕ) → constant_named [] text ≡ None
none_named text = by (is_name text)
  where
    by : (b : Bool) → ◌≡◌ {A = Option Operand} (if b then None else None) None
    by true = refl
    by false = refl

bytes_stay : (text : List ℕ) → list_all is_plain_byte text ≡ true → word_of [] text ≡ Ok text
unfolding word_of literal_of
bytes_stay [] h = refl
bytes_stay (c ∷ cs) h =
    rw (no_literal c cs h, none_named (c ∷ cs), plain_ascii (c ∷ cs) h) refl

-- ---- the opcodes, and the words with a meaning of their own

pub name_stays : (o : Op) → word_of [] (name_of o) ≡ Ok (name_of o)
unfolding word_of literal_of
name_stays Jump = refl
name_stays o = refl

same_stays : (text name : List ℕ) → word_of [] name ≡ Ok name → bytes_eq name text ≡ true
    → word_of [] text ≡ Ok text
same_stays text name h e =
    subst (λ t. word_of [] t ≡ Ok t) ((bytes_eq-Decides name text).0 e) h

-- each of these names stays as it is
abbrev AllStay : {X : Type 0} → List (List ℕ × X) → Type 0
AllStay [] = Unit {0}
AllStay (entry ∷ entries) = (word_of [] entry.0 ≡ Ok entry.0) × AllStay entries

named_stays : {X : Type 0} (entries : List (List ℕ × X)) (text : List ℕ) (x : List ℕ × X)
    → AllStay entries → find (λ entry. bytes_eq entry.0 text) entries ≡ Some x
    → word_of [] text ≡ Ok text
named_stays [] text x all e = absurd (cc)
named_stays {X} (entry ∷ entries) text x all e =
    by (bytes_eq entry.0 text) refl (find (λ entry. bytes_eq entry.0 text) entries)
    (λ more. named_stays entries text x all.1 more) e
  where
    by : (b : Bool) → bytes_eq entry.0 text ≡ b → (others : Option (List ℕ × X))
        → (others ≡ Some x → word_of [] text ≡ Ok text)
        → (if b then Some entry else others) ≡ Some x → word_of [] text ≡ Ok text
    by true is others more e = same_stays text entry.0 all.0 is
    by false is others more e = more e

some_of_map : {X Y : Type 0} (f : X → Y) (o : Option X) (y : Y) → option_map f o ≡ Some y
    → (x : X) × (o ≡ Some x)
some_of_map f None y e = absurd (cc)
some_of_map f (Some x) y e = (x, refl)

op_stays_in : (ops : List Op) (text : List ℕ) (o : Op)
    → find (λ o. bytes_eq (name_of o) text) ops ≡ Some o → word_of [] text ≡ Ok text
op_stays_in [] text o e = absurd (cc)
op_stays_in (first ∷ ops) text o e =
    by (bytes_eq (name_of first) text) refl
    (find (λ o. bytes_eq (name_of o) text) ops) (λ more. op_stays_in ops text o more) e
  where
    by : (b : Bool) → bytes_eq (name_of first) text ≡ b → (others : Option Op)
        → (others ≡ Some o → word_of [] text ≡ Ok text)
        → (if b then Some first else others) ≡ Some o → word_of [] text ≡ Ok text
    by true is others more e = same_stays text (name_of first) (name_stays first) is
    by false is others more e = more e

op_stays : (text : List ℕ) (t : Token) → as_op text ≡ Some t → word_of [] text ≡ Ok text
op_stays text t e =
    let found = some_of_map model.op (find (λ o. bytes_eq (name_of o) text) opcodes) t e in
    op_stays_in opcodes text found.0 found.1

number_stays : (text : List ℕ) (t : Token) → option_map model.number (number_named text) ≡ Some t
    → word_of [] text ≡ Ok text
unfolding word_of literal_of
number_stays text t e =
    let number = some_of_map model.number (number_named text) t e in
    let names : List (List ℕ × ℕ) =
    (codes "right", 0x1D5) ∷ (codes "down", 0x115) ∷ (codes "left", 0x175) ∷ (codes "up", 0x145)
    ∷ (codes "io", 0x15D) ∷ (codes "rdlu", 0x1A5) ∷ (codes "warm", 0x0A9) ∷ [] in
    let entry = some_of_map (λ entry. entry.1) (find (λ entry. bytes_eq entry.0 text) names)
    number.0 number.1 in
    named_stays names text entry.0 (refl, (refl, (refl, (refl, (refl, (refl, (refl, tt)))))))
    entry.1

fixed_stays : (text : List ℕ) (t : Token) → as_fixed text ≡ Some t → word_of [] text ≡ Ok text
unfolding word_of literal_of
fixed_stays text t e =
    let entry = some_of_map (λ entry. entry.1) (find (λ entry. bytes_eq entry.0 text) fixed) t e in
    named_stays fixed text entry.0 (refl, (refl, (refl, (refl, (refl, (refl, (refl, tt)))))))
    entry.1

-- ---- numbers, names and labels

digits_stay : (text : List ℕ) → list_all (λ c. is_digit c 10) text ≡ true
    → word_of [] text ≡ Ok text
digits_stay text h = bytes_stay text (all_plain (λ c. is_digit c 10) decimal_is_plain text h)

-- the test of an `if` that gives something
some_by : {X : Type 0} (b : Bool) (x y : X)
    → ◌≡◌ {A = Option X} (if b then Some x else None) (Some y) → b ≡ true
some_by true x y e = refl
some_by false x y e = absurd (cc)

decimal_stays : (text : List ℕ) (t : Token)
    → option_map model.ranged (model.numeral 10 text) ≡ Some t → word_of [] text ≡ Ok text
decimal_stays text t e =
    let number = some_of_map model.ranged (model.numeral 10 text) t e in
    let is = some_by (nat_le 1 (length text) && nat_le (length text) 8
    && list_all (λ c. is_digit c 10) text) (digits_value 10 text) number.0 number.1 in
    digits_stay text (and_parts (nat_le 1 (length text) && nat_le (length text) 8)
    (list_all (λ c. is_digit c 10) text) is).1

hex_stays : (text : List ℕ) (t : Token) → as_hex text ≡ Some t → word_of [] text ≡ Ok text
hex_stays [] t e = absurd (cc)
hex_stays (c ∷ digits) t e = by (c == 36) refl e
  where
    by : (b : Bool) → (c == 36) ≡ b
        → (if b then option_map model.ranged (model.numeral 16 digits) else None) ≡ Some t
        → word_of [] (c ∷ digits) ≡ Ok (c ∷ digits)
    by true is e =
        let number = some_of_map model.ranged (model.numeral 16 digits) t e in
        let is_number = some_by (nat_le 1 (length digits) && nat_le (length digits) 8
        && list_all (λ c. is_digit c 16) digits) (digits_value 16 digits) number.0 number.1 in
        let all = (and_parts (nat_le 1 (length digits) && nat_le (length digits) 8)
        (list_all (λ c. is_digit c 16) digits) is_number).1 in
        let first : is_plain_byte c ≡ true =
        ap is_plain_byte (eqb-true c 36 is) in
        bytes_stay (c ∷ digits) (and_from (is_plain_byte c) (list_all is_plain_byte digits) first
        (all_plain (λ c. is_digit c 16) hex_is_plain digits all))
    by false is e = absurd (cc)

name_is_plain : (text : List ℕ) → is_name text ≡ true → list_all is_plain_byte text ≡ true
name_is_plain [] h = refl
name_is_plain (c ∷ cs) h =
    let both = and_parts (is_letter c && nat_lt (length cs) 16)
    (list_all is_letter_or_digit cs) h in
    let first = and_parts (is_letter c) (nat_lt (length cs) 16) both.0 in
    let letter : is_letter_or_digit c ≡ true = rw first.0 refl in
    and_from (is_plain_byte c) (list_all is_plain_byte cs) (letter_is_plain c letter)
    (all_plain is_letter_or_digit letter_is_plain cs both.1)

name_stays_as : (text : List ℕ) (t : Token) → as_name text ≡ Some t → word_of [] text ≡ Ok text
name_stays_as text t e =
    bytes_stay text (name_is_plain text (some_by (is_name text) (model.name text) t e))

label_is_plain : (front text : List ℕ) (t : Token) → label_from front text ≡ Some t
    → list_all is_plain_byte (front ++ text) ≡ true
label_is_plain front [] t e = absurd (cc)
label_is_plain front (c ∷ []) t e =
    let both = and_parts (c == 58) (is_name front)
    (some_by ((c == 58) && is_name front) (model.label front) t e) in
    let colon : is_plain_byte c ≡ true = ap is_plain_byte (eqb-true c 58 both.0) in
    list_all-append is_plain_byte front (c ∷ [])
    ∙ and_from (list_all is_plain_byte front) (list_all is_plain_byte (c ∷ []))
    (name_is_plain front both.1) (and_from (is_plain_byte c) true colon refl)
label_is_plain front (c ∷ d ∷ cs) t e =
    ap (list_all is_plain_byte) (sym (append_assoc front (c ∷ []) (d ∷ cs)))
    ∙ label_is_plain (front ++ c ∷ []) (d ∷ cs) t e

label_stays : (text : List ℕ) (t : Token) → as_label text ≡ Some t → word_of [] text ≡ Ok text
label_stays text t e = bytes_stay text (label_is_plain [] text t e)

-- ---- a token that isn't malformed

abbrev is_bad : Token → Bool
is_bad (model.bad kind) = true
is_bad t = false

-- what gives a token gives it by the first part or by the others
record Gives (text : List ℕ) (o : Option Token) : Type 0 where
  gives : (t : Token) → o ≡ Some t → word_of [] text ≡ Ok text

either : (text : List ℕ) (a b : Option Token) → Gives text a → Gives text b
    → Gives text (option_or a b)
either text None b g h = record { gives = λ t e. h.gives t e }
either text (Some s) b g h = record { gives = λ t e. g.gives s refl }

by_meaning : (text : List ℕ) (o : Option Token) (k : SourceErrorKind) → Gives text o
    → is_bad (unwrap_or o (model.bad k)) ≡ false → word_of [] text ≡ Ok text
by_meaning text None k g e = absurd (cc)
by_meaning text (Some t) k g e = g.gives t refl

meaning_stays : (text : List ℕ) → is_bad (meaning_of text) ≡ false → word_of [] text ≡ Ok text
unfolding meaning_of
meaning_stays text e =
    by_meaning text
    (option_or (as_op text) (option_or (option_map model.number (number_named text))
    (option_or (as_fixed text) (option_or (option_map model.ranged (model.numeral 10 text))
    (option_or (as_hex text) (option_or (as_label text) (as_name text))))))) kind.BadToken
    (either text (as_op text) _ (record { gives = op_stays text })
    (either text (option_map model.number (number_named text)) _
    (record { gives = number_stays text })
    (either text (as_fixed text) _ (record { gives = fixed_stays text })
    (either text (option_map model.ranged (model.numeral 10 text)) _
    (record { gives = decimal_stays text })
    (either text (as_hex text) _ (record { gives = hex_stays text })
    (either text (as_label text) (as_name text) (record { gives = label_stays text })
    (record { gives = name_stays_as text }))))))) e

node_by : (text : List ℕ) (b : Bool)
    → ((length text == 3) && list_all (λ c. is_digit c 10) text
    && (nat_lt (digits_value 10 text / 100) 8 && nat_lt (digits_value 10 text % 100) 18)) ≡ b
    → is_bad (unwrap_or (if b then Some (model.node_name (digits_value 10 text)) else None)
    (meaning_of text)) ≡ false → word_of [] text ≡ Ok text
node_by text true is e =
    let both = and_parts ((length text == 3) && list_all (λ c. is_digit c 10) text)
    (nat_lt (digits_value 10 text / 100) 8 && nat_lt (digits_value 10 text % 100) 18) is in
    digits_stay text (and_parts (length text == 3) (list_all (λ c. is_digit c 10) text) both.0).1
node_by text false is e = meaning_stays text e

token_stays : (behind : Bool) (text : List ℕ) → is_bad (meaning_at behind text) ≡ false
    → word_of [] text ≡ Ok text
unfolding meaning_at
token_stays false text e = meaning_stays text e
token_stays true text e =
    node_by text ((length text == 3) && list_all (λ c. is_digit c 10) text
    && (nat_lt (digits_value 10 text / 100) 8 && nat_lt (digits_value 10 text % 100) 18)) refl e

-- ---- tokens in their places: no name where an item may begin

abbrev is_name_token : Token → Bool
is_name_token (model.name s) = true
is_name_token t = false

abbrev is_node_name : Token → Bool
is_node_name (model.node_name n) = true
is_node_name t = false

abbrev is_placed : Stage → Token → Bool
is_placed Body t = not (is_name_token t) && not (is_bad t)
is_placed Value t = not (is_bad t)
is_placed NodeName t = is_node_name t
is_placed stage t = false

abbrev behind : Stage → Token → Stage
behind NodeName t = Body
behind stage t = stage_by t

abbrev all_placed : Stage → List Token → Bool
all_placed stage [] = true
all_placed stage (t ∷ ts) = is_placed stage t && all_placed (behind stage t) ts

-- a name of the plain language is none of these words
other_word : (text word : List ℕ) → meaning_of word ≡ model.name word
    → is_name_token (meaning_of text) ≡ false → bytes_eq text word ≡ false
other_word text word means e = by (bytes_eq text word) refl
  where
    by : (b : Bool) → bytes_eq text word ≡ b → b ≡ false
    by false is = refl
    by true is =
        let same : text ≡ word = (bytes_eq-Decides text word).0 is in
        let other : true ≡ false = sym (ap is_name_token (ap meaning_of same ∙ means)) ∙ e in
        absurd (cc)

no_to : (text : List ℕ) → is_name_token (meaning_of text) ≡ false → is_to text ≡ false
unfolding meaning_of
no_to text e = other_word text (codes "to") refl e

no_direction : (text : List ℕ) → is_name_token (meaning_of text) ≡ false
    → direction_named text ≡ None
unfolding meaning_of
no_direction text e =
    rw (
      other_word text (codes "north") refl e,
      other_word text (codes "east") refl e,
      other_word text (codes "south") refl e,
      other_word text (codes "west") refl e,
    ) refl

-- a token that begins with `&` is malformed
no_label_there : (front text : List ℕ) → label_from (38 ∷ front) text ≡ None
no_label_there front [] = refl
no_label_there front (c ∷ []) = by (c == 58)
  where
    by : (b : Bool) → ◌≡◌ {A = Option Token} (if b && false then Some (model.label (38 ∷ front))
        else None) None
    by true = refl
    by false = refl
no_label_there front (c ∷ d ∷ cs) = no_label_there (front ++ c ∷ []) (d ∷ cs)

label_none : (cs : List ℕ) → as_label (38 ∷ cs) ≡ None
label_none [] = refl
label_none (d ∷ cs) = no_label_there [] (d ∷ cs)

decimal_none : (cs : List ℕ) → model.numeral 10 (38 ∷ cs) ≡ None
decimal_none cs = by (nat_le 1 (length (38 ∷ cs)) && nat_le (length (38 ∷ cs)) 8)
  where
    by : (b : Bool) → ◌≡◌ {A = Option ℕ} (if b && false
        then Some (digits_value 10 (38 ∷ cs)) else None) None
    by true = refl
    by false = refl

malformed : (cs : List ℕ) → is_bad (meaning_of (38 ∷ cs)) ≡ true
unfolding meaning_of
malformed cs = rw (decimal_none cs, label_none cs) refl

no_address : (text : List ℕ) → is_bad (meaning_of text) ≡ false → label_in text ≡ None
no_address [] good = refl
no_address (c ∷ cs) good = by (c == 38) refl
  where
    by : (b : Bool) → (c == 38) ≡ b → ◌≡◌ {A = Option (List ℕ)}
        (if b && is_name cs && not (is_reserved cs) then Some cs else None) None
    by false is = refl
    by true is =
        let bad : is_bad (meaning_of (c ∷ cs)) ≡ true =
        ap (λ (d : ℕ). is_bad (meaning_of (d ∷ cs))) (eqb-true c 38 is) ∙ malformed cs in
        absurd (cc)

-- no constant is defined, so none has the name of a label
no_taken_label : (text : List ℕ) → is_taken_label [] text ≡ false
no_taken_label text = by (label_defined text)
  where
    by : (o : Option (List ℕ))
        → option_map_or (λ name. is_some (constant_named [] name)) o false ≡ false
    by None = refl
    by (Some name) = ap is_some (none_named name)

name_is_good : (t : Token) → is_node_name t ≡ true → (is_bad t ≡ false) × (is_node t ≡ false)
name_is_good (model.node_name n) e = (refl, refl)
name_is_good (model.bad k) e = absurd (cc)
name_is_good t e = absurd (cc)

abbrev plain_scope : Option ℕ → Stage → Scope
plain_scope node stage = record { constants = []; node = node; stage = stage }

abbrev texts_in : List Piece → List (List ℕ)
texts_in pieces = map (λ piece. piece.text) pieces

-- what is left of the tokens behind one, by where it is
next_placed : (stage : Stage) (t : Token) (b c : Bool) (texts : List (List ℕ)) → b ≡ c
    → all_placed stage (meanings b texts) ≡ true → all_placed stage (meanings c texts) ≡ true
next_placed stage t b c texts same h =
    ap (λ (b : Bool). all_placed stage (meanings b texts)) (sym same) ∙ h

-- a token that stays, and what is behind it
one_stays : (piece : Piece) (pieces : List Piece) (next : Scope)
    → word_of [] piece.text ≡ Ok piece.text → expansion_from next pieces ≡ Ok pieces
    → next.constants ≡ []
    → further piece.place (word_at next piece) (λ scope. expansion_from scope pieces)
    ≡ Ok (piece ∷ pieces)
one_stays piece pieces next word rest none =
    ap (λ constants. further piece.place
    (word_step next piece.place (word_of constants piece.text))
    (λ scope. expansion_from scope pieces)) none
    ∙ ap (λ t. further piece.place (word_step next piece.place t)
    (λ scope. expansion_from scope pieces)) word
    ∙ ap (onto (piece ∷ [])) rest

abbrev Stays : Option ℕ → Stage → List Piece → Type 0
Stays node stage pieces =
    all_placed stage (meanings (is_naming stage) (texts_in pieces)) ≡ true
    → expansion_from (plain_scope node stage) pieces ≡ Ok pieces

plain_stay : (at : Option ℕ) (piece : Piece) (pieces : List Piece)
    → is_bad (meaning_of piece.text) ≡ false
    → all_placed (stage_by (meaning_of piece.text))
    (meanings (is_node (meaning_of piece.text)) (texts_in pieces)) ≡ true
    → Stays at (stage_by (meaning_of piece.text)) pieces
    → further piece.place
    (word_at (plain_scope at (stage_by (meaning_of piece.text))) piece)
    (λ scope. expansion_from scope pieces) ≡ Ok (piece ∷ pieces)
plain_stay at piece pieces good placed more =
    let t = meaning_of piece.text in
    one_stays piece pieces (plain_scope at (stage_by t)) (meaning_stays piece.text good)
    (more (next_placed (stage_by t) t (is_node t) (is_naming (stage_by t)) (texts_in pieces)
    (naming t) placed)) refl

item_stay : (node : Option ℕ) (piece : Piece) (pieces : List Piece)
    → is_name_token (meaning_of piece.text) ≡ false → is_bad (meaning_of piece.text) ≡ false
    → all_placed (stage_by (meaning_of piece.text))
    (meanings (is_node (meaning_of piece.text)) (texts_in pieces)) ≡ true
    → Stays node (stage_by (meaning_of piece.text)) pieces
    → further piece.place (item_at (plain_scope node Body) node piece)
    (λ scope. expansion_from scope pieces) ≡ Ok (piece ∷ pieces)
item_stay None piece pieces no_name good placed more =
    plain_stay None piece pieces good placed more
item_stay (Some name) piece pieces no_name good placed more =
    rw (no_to piece.text no_name, no_direction piece.text no_name)
    (plain_stay (Some name) piece pieces good placed more)

pieces_stay : (at : Option ℕ) (stage : Stage) (pieces : List Piece) → Stays at stage pieces
unfolding meanings meaning_at expansion_from step_at
pieces_stay at Body [] h = refl
pieces_stay at Value [] h = refl
pieces_stay at NodeName [] h = refl
pieces_stay at Head [] h = absurd (cc)
pieces_stay at (Naming place) [] h = absurd (cc)
pieces_stay at (Valuing name place) [] h = absurd (cc)
pieces_stay at (Towards name place) [] h = absurd (cc)
pieces_stay at Body (piece ∷ pieces) h =
    let t = meaning_of piece.text in
    let two = and_parts (not (is_name_token t) && not (is_bad t))
    (all_placed (stage_by t) (meanings (is_node t) (texts_in pieces))) h in
    let one = and_parts (not (is_name_token t)) (not (is_bad t)) two.0 in
    rw (no_taken_label piece.text, no_address piece.text (not-true (is_bad t) one.1))
    (item_stay at piece pieces (not-true (is_name_token t) one.0) (not-true (is_bad t) one.1)
    two.1 (pieces_stay at (stage_by t) pieces))
pieces_stay at Value (piece ∷ pieces) h =
    let t = meaning_of piece.text in
    let two = and_parts (not (is_bad t))
    (all_placed (stage_by t) (meanings (is_node t) (texts_in pieces))) h in
    plain_stay at piece pieces (not-true (is_bad t) two.0) two.1
    (pieces_stay at (stage_by t) pieces)
pieces_stay at NodeName (piece ∷ pieces) h =
    let t = meaning_at true piece.text in
    let two = and_parts (is_node_name t)
    (all_placed Body (meanings (is_node t) (texts_in pieces))) h in
    let good = name_is_good t two.0 in
    let next = plain_scope (node_named piece.text) Body in
    one_stays piece pieces next (token_stays true piece.text good.0)
    (pieces_stay (node_named piece.text) Body pieces
    (next_placed Body t (is_node t) false (texts_in pieces) good.1 two.1)) refl
pieces_stay at Head (piece ∷ pieces) h = absurd (cc)
pieces_stay at (Naming place) (piece ∷ pieces) h = absurd (cc)
pieces_stay at (Valuing name place) (piece ∷ pieces) h = absurd (cc)
pieces_stay at (Towards name place) (piece ∷ pieces) h = absurd (cc)

-- a text that begins with `node` has no definitions

const_means : meaning_of (codes "const") ≡ model.name (codes "const")
unfolding meaning_of
const_means = refl

not_const : (text : List ℕ) → meaning_of text ≡ model.node → is_const text ≡ false
not_const text e = other_word text (codes "const") const_means (ap is_name_token e)

first_stays : (pieces : List Piece) (ts : List Token)
    → meanings false (texts_in pieces) ≡ model.node ∷ ts → all_placed NodeName ts ≡ true
    → expansion_from start pieces ≡ Ok pieces
unfolding meanings meaning_at expansion_from step_at
first_stays [] ts e h = absurd (cc)
first_stays (piece ∷ pieces) ts e h =
    let node : meaning_of piece.text ≡ model.node = cc in
    let left : meanings (is_node (meaning_of piece.text)) (texts_in pieces) ≡ ts = cc in
    let good : is_bad (meaning_of piece.text) ≡ false = ap is_bad node in
    let placed : all_placed (stage_by (meaning_of piece.text))
    (meanings (is_node (meaning_of piece.text)) (texts_in pieces)) ≡ true =
    ap (λ ts. all_placed (stage_by (meaning_of piece.text)) ts) left
    ∙ ap (λ t. all_placed (stage_by t) ts) node ∙ h in
    rw (not_const piece.text node)
    (plain_stay None piece pieces good placed
    (pieces_stay None (stage_by (meaning_of piece.text)) pieces))

-- ---- no token of a plain text is a part of a definition or of a `use`

abbrev plain_state : List Piece → Stage → Unfolding
plain_state text stage = record first { text = text; reading = Tokens stage }

one_unfolds : (stage : Stage) (text : List Piece) (piece : Piece) (pieces : List Piece)
    → is_use stage piece.text ≡ false
    → unfolded_from (plain_state (text ++ piece ∷ []) (bodies.behind stage piece.text)) pieces
    ≡ Ok ((text ++ piece ∷ []) ++ pieces)
    → unfolded_from (plain_state text stage) (piece ∷ pieces) ≡ Ok (text ++ piece ∷ pieces)
unfolding unfolded_from read_at
one_unfolds stage text piece pieces other rest =
    rw other (rest ∙ ap Ok (append_assoc text (piece ∷ []) pieces))

no_use : (text : List ℕ) → is_name_token (meaning_of text) ≡ false → is_use Body text ≡ false
unfolding meaning_of
no_use text e = other_word text (codes "use") refl e

abbrev Unfolds : Stage → List Piece → Type 0
Unfolds stage pieces =
    all_placed stage (meanings (is_naming stage) (texts_in pieces)) ≡ true → (text : List Piece)
    → unfolded_from (plain_state text stage) pieces ≡ Ok (text ++ pieces)

nothing_left : (text : List Piece)
    → ◌≡◌ {A = Result (List Piece) Fault} (Ok text) (Ok (text ++ []))
nothing_left text = ap Ok (sym (append-nil text))

pieces_unfold : (stage : Stage) (pieces : List Piece) → Unfolds stage pieces
unfolding meanings meaning_at unfolded_from
pieces_unfold Body [] h text = nothing_left text
pieces_unfold Value [] h text = nothing_left text
pieces_unfold NodeName [] h text = nothing_left text
pieces_unfold Head [] h text = absurd (cc)
pieces_unfold (Naming place) [] h text = absurd (cc)
pieces_unfold (Valuing name place) [] h text = absurd (cc)
pieces_unfold (Towards name place) [] h text = absurd (cc)
pieces_unfold Body (piece ∷ pieces) h text =
    let t = meaning_of piece.text in
    let two = and_parts (not (is_name_token t) && not (is_bad t))
    (all_placed (stage_by t) (meanings (is_node t) (texts_in pieces))) h in
    let one = and_parts (not (is_name_token t)) (not (is_bad t)) two.0 in
    one_unfolds Body text piece pieces
    (no_use piece.text (not-true (is_name_token t) one.0))
    (pieces_unfold (stage_by t) pieces (next_placed (stage_by t) t (is_node t)
    (is_naming (stage_by t)) (texts_in pieces) (naming t) two.1) (text ++ piece ∷ []))
pieces_unfold Value (piece ∷ pieces) h text =
    let t = meaning_of piece.text in
    let two = and_parts (not (is_bad t))
    (all_placed (stage_by t) (meanings (is_node t) (texts_in pieces))) h in
    one_unfolds Value text piece pieces refl
    (pieces_unfold (stage_by t) pieces (next_placed (stage_by t) t (is_node t)
    (is_naming (stage_by t)) (texts_in pieces) (naming t) two.1) (text ++ piece ∷ []))
pieces_unfold NodeName (piece ∷ pieces) h text =
    let t = meaning_at true piece.text in
    let two = and_parts (is_node_name t)
    (all_placed Body (meanings (is_node t) (texts_in pieces))) h in
    let good = name_is_good t two.0 in
    one_unfolds NodeName text piece pieces refl
    (pieces_unfold Body pieces
    (next_placed Body t (is_node t) false (texts_in pieces) good.1 two.1)
    (text ++ piece ∷ []))
pieces_unfold Head (piece ∷ pieces) h text = absurd (cc)
pieces_unfold (Naming place) (piece ∷ pieces) h text = absurd (cc)
pieces_unfold (Valuing name place) (piece ∷ pieces) h text = absurd (cc)
pieces_unfold (Towards name place) (piece ∷ pieces) h text = absurd (cc)

body_means : meaning_of (codes "body") ≡ model.name (codes "body")
unfolding meaning_of
body_means = refl

not_body : (text : List ℕ) → meaning_of text ≡ model.node → is_body text ≡ false
not_body text e = other_word text (codes "body") body_means (ap is_name_token e)

first_unfolds : (pieces : List Piece) (ts : List Token)
    → meanings false (texts_in pieces) ≡ model.node ∷ ts → all_placed NodeName ts ≡ true
    → unfolded pieces ≡ Ok pieces
unfolding meanings meaning_at unfolded_from read_at
first_unfolds [] ts e h = absurd (cc)
first_unfolds (piece ∷ pieces) ts e h =
    let t = meaning_of piece.text in
    let node : t ≡ model.node = cc in
    let left : meanings (is_node t) (texts_in pieces) ≡ ts = cc in
    let placed : all_placed (stage_by t) (meanings (is_node t) (texts_in pieces)) ≡ true =
    ap (λ ts. all_placed (stage_by t) ts) left ∙ ap (λ t. all_placed (stage_by t) ts) node ∙ h in
    rw (
      not_const piece.text node,
      not_body piece.text node,
      no_use piece.text (ap is_name_token node),
    )
    (pieces_unfold (stage_by t) pieces (next_placed (stage_by t) t (is_node t)
    (is_naming (stage_by t)) (texts_in pieces) (naming t) placed) (piece ∷ []))

-- ---- no section of a plain text has a list

-- what is no name of a node is none by its meaning either
record Unnamed (o : Option Token) : Type 0 where
  unnamed : (t : Token) → o ≡ Some t → is_node_name t ≡ false

unnamed_none : Unnamed None
unnamed_none = record { unnamed = λ t e. absurd (cc) }

unnamed_some : (t : Token) → is_node_name t ≡ false → Unnamed (Some t)
unnamed_some t h =
    record { unnamed = λ s e. let same : t ≡ s = cc in subst (λ u. is_node_name u ≡ false) same h }

unnamed_if : (b : Bool) (o : Option Token) → Unnamed o → Unnamed (if b then o else None)
unnamed_if true o h = h
unnamed_if false o h = unnamed_none

unnamed_map : {X : Type 0} (f : X → Token) (o : Option X)
    → ((x : X) → is_node_name (f x) ≡ false) → Unnamed (option_map f o)
unnamed_map f None h = unnamed_none
unnamed_map f (Some x) h = unnamed_some (f x) (h x)

unnamed_either : (a b : Option Token) → Unnamed a → Unnamed b → Unnamed (option_or a b)
unnamed_either None b g h = h
unnamed_either (Some t) b g h = g

ranged_unnamed : (n : ℕ) → is_node_name (model.ranged n) ≡ false
ranged_unnamed n = by (nat_lt n (2 ^ 18))
  where
    by : (b : Bool)
        → is_node_name (if b then model.number n else model.bad kind.NumberRange) ≡ false
    by true = refl
    by false = refl

hex_unnamed : (text : List ℕ) → Unnamed (as_hex text)
hex_unnamed [] = unnamed_none
hex_unnamed (c ∷ digits) =
    unnamed_if (c == 36) (option_map model.ranged (model.numeral 16 digits))
    (unnamed_map model.ranged (model.numeral 16 digits) ranged_unnamed)

label_unnamed : (front text : List ℕ) → Unnamed (label_from front text)
label_unnamed front [] = unnamed_none
label_unnamed front (c ∷ []) =
    unnamed_if ((c == 58) && is_name front) (Some (model.label front))
    (unnamed_some (model.label front) refl)
label_unnamed front (c ∷ d ∷ cs) = label_unnamed (front ++ c ∷ []) (d ∷ cs)

found_unnamed : (text : List ℕ) (entries : List (List ℕ × Token))
    → list_all (λ entry. not (is_node_name entry.1)) entries ≡ true
    → Unnamed (option_map (λ entry. entry.1) (find (λ entry. bytes_eq entry.0 text) entries))
found_unnamed text [] h = unnamed_none
found_unnamed text (entry ∷ entries) h =
    let two = and_parts (not (is_node_name entry.1))
    (list_all (λ entry. not (is_node_name entry.1)) entries) h in
    by (bytes_eq entry.0 text) (not-true (is_node_name entry.1) two.0)
    (find (λ entry. bytes_eq entry.0 text) entries) (found_unnamed text entries two.1)
  where
    by : (b : Bool) → is_node_name entry.1 ≡ false → (others : Option (List ℕ × Token))
        → Unnamed (option_map (λ entry. entry.1) others)
        → Unnamed (option_map (λ entry. entry.1) (if b then Some entry else others))
    by true other others more = unnamed_some entry.1 other
    by false other others more = more

unnamed_whole : (o : Option Token) (k : SourceErrorKind) → Unnamed o
    → is_node_name (unwrap_or o (model.bad k)) ≡ false
unnamed_whole None k g = refl
unnamed_whole (Some t) k g = g.unnamed t refl

plain_unnamed : (text : List ℕ) → is_node_name (meaning_of text) ≡ false
unfolding meaning_of
plain_unnamed text =
    unnamed_whole
    (option_or (as_op text) (option_or (option_map model.number (number_named text))
    (option_or (as_fixed text) (option_or (option_map model.ranged (model.numeral 10 text))
    (option_or (as_hex text) (option_or (as_label text) (as_name text))))))) kind.BadToken
    (unnamed_either (as_op text) _
    (unnamed_map model.op (find (λ o. bytes_eq (name_of o) text) opcodes) (λ o. refl))
    (unnamed_either (option_map model.number (number_named text)) _
    (unnamed_map model.number (number_named text) (λ n. refl))
    (unnamed_either (as_fixed text) _ (found_unnamed text fixed refl)
    (unnamed_either (option_map model.ranged (model.numeral 10 text)) _
    (unnamed_map model.ranged (model.numeral 10 text) ranged_unnamed)
    (unnamed_either (as_hex text) _ (hex_unnamed text)
    (unnamed_either (as_label text) (as_name text) (label_unnamed [] text)
    (unnamed_if (is_name text) (Some (model.name text))
    (unnamed_some (model.name text) refl))))))))

decimal_no_comma : (c : ℕ) → is_digit c 10 ≡ true → (c == 44) ≡ false
decimal_no_comma c h = grind (arith, nat_tests)

digits_no_list : (text : List ℕ) → list_all (λ c. is_digit c 10) text ≡ true
    → is_list text ≡ false
digits_no_list [] h = refl
digits_no_list (c ∷ cs) h =
    let two = and_parts (is_digit c 10) (list_all (λ c. is_digit c 10) cs) h in
    rw (decimal_no_comma c two.0, digits_no_list cs two.1) refl

named_by : (text : List ℕ) (b : Bool)
    → ((length text == 3) && list_all (λ c. is_digit c 10) text
    && (nat_lt (digits_value 10 text / 100) 8 && nat_lt (digits_value 10 text % 100) 18)) ≡ b
    → is_node_name (unwrap_or (if b then Some (model.node_name (digits_value 10 text)) else None)
    (meaning_of text)) ≡ true → is_list text ≡ false
named_by text true is e =
    let both = and_parts ((length text == 3) && list_all (λ c. is_digit c 10) text)
    (nat_lt (digits_value 10 text / 100) 8 && nat_lt (digits_value 10 text % 100) 18) is in
    digits_no_list text
    (and_parts (length text == 3) (list_all (λ c. is_digit c 10) text) both.0).1
named_by text false is e = let none = plain_unnamed text in absurd (cc)

no_list : (text : List ℕ) → is_node_name (meaning_at true text) ≡ true → is_list text ≡ false
unfolding meaning_at
no_list text e =
    named_by text ((length text == 3) && list_all (λ c. is_digit c 10) text
    && (nat_lt (digits_value 10 text / 100) 8 && nat_lt (digits_value 10 text % 100) 18)) refl e

pieces_spread : (stage : Stage) (pieces : List Piece)
    → all_placed stage (meanings (is_naming stage) (texts_in pieces)) ≡ true
    → SpreadsAt (is_naming stage) pieces
unfolding meanings meaning_at spread_from
pieces_spread Body [] h done node = ap Ok (sym (append-nil done))
pieces_spread Value [] h done node = ap Ok (sym (append-nil done))
pieces_spread NodeName [] h done node = refl
pieces_spread Head [] h done node = absurd (cc)
pieces_spread (Naming place) [] h done node = absurd (cc)
pieces_spread (Valuing name place) [] h done node = absurd (cc)
pieces_spread (Towards name place) [] h done node = absurd (cc)
pieces_spread Body (piece ∷ pieces) h done node =
    let t = meaning_of piece.text in
    let two = and_parts (not (is_name_token t) && not (is_bad t))
    (all_placed (stage_by t) (meanings (is_node t) (texts_in pieces))) h in
    item_spreads piece pieces done (is_node t) (subst (λ b. SpreadsAt b pieces) (sym (naming t))
    (pieces_spread (stage_by t) pieces (next_placed (stage_by t) t (is_node t)
    (is_naming (stage_by t)) (texts_in pieces) (naming t) two.1)))
pieces_spread Value (piece ∷ pieces) h done node =
    let t = meaning_of piece.text in
    let two = and_parts (not (is_bad t))
    (all_placed (stage_by t) (meanings (is_node t) (texts_in pieces))) h in
    item_spreads piece pieces done (is_node t) (subst (λ b. SpreadsAt b pieces) (sym (naming t))
    (pieces_spread (stage_by t) pieces (next_placed (stage_by t) t (is_node t)
    (is_naming (stage_by t)) (texts_in pieces) (naming t) two.1)))
pieces_spread NodeName (piece ∷ pieces) h done node =
    let t = meaning_at true piece.text in
    let two = and_parts (is_node_name t)
    (all_placed Body (meanings (is_node t) (texts_in pieces))) h in
    let good = name_is_good t two.0 in
    name_spreads node piece pieces done (no_list piece.text two.0)
    (pieces_spread Body pieces
    (next_placed Body t (is_node t) false (texts_in pieces) good.1 two.1))
pieces_spread Head (piece ∷ pieces) h done node = absurd (cc)
pieces_spread (Naming place) (piece ∷ pieces) h done node = absurd (cc)
pieces_spread (Valuing name place) (piece ∷ pieces) h done node = absurd (cc)
pieces_spread (Towards name place) (piece ∷ pieces) h done node = absurd (cc)

first_spreads : (pieces : List Piece) (ts : List Token)
    → meanings false (texts_in pieces) ≡ model.node ∷ ts → all_placed NodeName ts ≡ true
    → spread (Ok pieces) ≡ Ok pieces
unfolding meanings meaning_at spread_from
first_spreads [] ts e h = absurd (cc)
first_spreads (piece ∷ pieces) ts e h =
    let t = meaning_of piece.text in
    let node : t ≡ model.node = cc in
    let left : meanings (is_node t) (texts_in pieces) ≡ ts = cc in
    let placed : all_placed (stage_by t) (meanings (is_node t) (texts_in pieces)) ≡ true =
    ap (λ ts. all_placed (stage_by t) ts) left ∙ ap (λ t. all_placed (stage_by t) ts) node ∙ h in
    item_spreads piece pieces [] (is_node t) (subst (λ b. SpreadsAt b pieces) (sym (naming t))
    (pieces_spread (stage_by t) pieces (next_placed (stage_by t) t (is_node t)
    (is_naming (stage_by t)) (texts_in pieces) (naming t) placed)))

-- ---- the tokens of a program

value_placed : (v : source.Value) (rest : List Token) → all_placed Body rest ≡ true
    → all_placed Value (source.value_token v ∷ rest) ≡ true
value_placed (source.Number n) rest h = h
value_placed (source.Label s) rest h = h

ops_placed : (slot : ℕ) (ops : List Op) (rest : List Token) → source.stand_from slot ops ≡ true
    → all_placed Body rest ≡ true → all_placed Body (source.op_tokens ops rest) ≡ true
ops_placed slot [] rest is h = h
ops_placed slot (o ∷ ops) rest is h =
    let two = and_parts (not (takes_dest o) && op_fits slot o)
    (source.stand_from (suc slot) ops) is in
    let plain : takes_dest o ≡ false =
    not-true (takes_dest o) (and_parts (not (takes_dest o)) (op_fits slot o) two.0).0 in
    rw plain (ops_placed (suc slot) ops rest two.1 h)

spare_placed : (spare : Option ℕ) (rest : List Token) → all_placed Body rest ≡ true
    → all_placed Body (source.spare_tokens spare rest) ≡ true
spare_placed None rest h = h
spare_placed (Some spare) rest h = h

-- an opcode and its destination
transfer_placed : (o : Op) (v : source.Value) (rest : List Token) → takes_dest o ≡ true
    → all_placed Body rest ≡ true
    → all_placed Body (model.op o ∷ source.value_token v ∷ rest) ≡ true
transfer_placed o v rest is h = rw is (value_placed v rest h)

item_placed : (i : source.Item) (rest : List Token) → source.is_item i ≡ true
    → all_placed Body rest ≡ true → all_placed Body (source.item_tokens i rest) ≡ true
unfolding source.is_item
item_placed (source.Instruction o) rest is h =
    let plain : takes_dest o ≡ false =
    not-true (takes_dest o) (and_parts (not (takes_dest o)) (not (is_followed o)) is).0 in
    rw plain h
item_placed (source.Transfer o v) rest is h =
    transfer_placed o v rest
    (and_parts (takes_dest o) (source.is_below (dest_bound 0) v) is).0 h
item_placed (source.Literal n) rest is h = h
item_placed (source.Here s) rest is h = h
item_placed source.Align rest is h = h
item_placed (source.Word ops) rest is h =
    ops_placed 0 ops (model.close_mark ∷ rest)
    (and_parts (nat_lt 0 (length ops)) (source.stand_from 0 ops) is).1 h
item_placed (source.WordTo ops o v spare) rest is h =
    let four = and_parts (source.stand_from 0 ops && nat_lt (length ops) 3 && takes_dest o
    && source.is_below (dest_bound (length ops)) v) (source.is_spare (length ops) spare) is in
    let three = and_parts (source.stand_from 0 ops && nat_lt (length ops) 3 && takes_dest o)
    (source.is_below (dest_bound (length ops)) v) four.0 in
    let two = and_parts (source.stand_from 0 ops && nat_lt (length ops) 3) (takes_dest o) three.0 in
    let one = and_parts (source.stand_from 0 ops) (nat_lt (length ops) 3) two.0 in
    ops_placed 0 ops (model.op o ∷ source.value_token v ∷ source.spare_tokens spare rest) one.0
    (transfer_placed o v (source.spare_tokens spare rest) two.1 (spare_placed spare rest h))
item_placed (source.Plain v) rest is h = value_placed v rest h
item_placed source.Data rest is h = h

items_placed : (b : source.Before) (is : List source.Item) (rest : List Token)
    → source.Items b is → all_placed Body rest ≡ true
    → all_placed Body (source.items_tokens is rest) ≡ true
unfolding source.Items
items_placed b [] rest right h = h
items_placed b (i ∷ is) rest (p, right, new, at, more) h =
    item_placed i (source.items_tokens is rest) right
    (items_placed (source.after b i p) is rest more h)

sections_placed : (seen : List ℕ) (ss : List source.Section) → source.Sections seen ss
    → all_placed Body (source.text_tokens ss) ≡ true
unfolding source.Sections
sections_placed seen [] right = refl
sections_placed seen (s ∷ ss) (new, items, more) =
    items_placed source.start s.items (source.text_tokens ss) items
    (sections_placed (seen ++ s.name ∷ []) ss more)

source_stays : (pieces : List Piece) (ts : List Token) (ss : List source.Section)
    → meanings false (texts_in pieces) ≡ ts → source.Source ts ss
    → expanded (spread (unfolded pieces)) ≡ Ok pieces
unfolding source.Source
source_stays pieces ts [] e h = absurd h
source_stays pieces ts (s ∷ ss) e h =
    let others = model.node_name s.name ∷ source.items_tokens s.items (source.text_tokens ss) in
    let placed = sections_placed [] (s ∷ ss) h.1 in
    ap (λ r. expanded (spread r)) (first_unfolds pieces others (e ∙ h.0) placed)
    ∙ ap expanded (first_spreads pieces others (e ∙ h.0) placed)
    ∙ first_stays pieces others (e ∙ h.0) placed

texts_are : (text : List ℕ) → map (λ piece. piece.text) (pieces_of text) ≡ texts_of text
unfolding pieces_of texts_of
texts_are text = by (lexemes text)
  where
    by : (ls : List Lexeme) → map (λ (piece : Piece). piece.text) (map piece_at ls)
        ≡ map (λ l. l.text) ls
    by [] = refl
    by (l ∷ ls) = ap (λ (t : List (List ℕ)). l.text ∷ t) (by ls)

pub plain_stays : (text : List ℕ) → PlainStays text
unfolding expansion tokens_of IsProgram
plain_stays text program is =
    source_stays (pieces_of text) (tokens_of text) is.0 (ap (meanings false) (texts_are text)) is.1
