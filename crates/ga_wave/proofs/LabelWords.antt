-- The labels of the images of a text are words, since each is a name of the text.
use Rattle.std.proofs.Common.{◌≡◌, ◌∙◌, ℕ, ◌+◌, ◌/◌, ◌%◌, ◌^◌, Bool, true, false, List, [], ◌∷◌, ◌++◌, Option, Some, None, ap, drop, length, map, option_map, refl, subst, sym, unwrap_or}
use Rattle.std.specs.Prelude.{◌==◌, ◌&&◌, find, if◌then◌else◌, nat_lt, not}
use Rattle.std.specs.Char.{is_digit}
use Rattle.std.specs.List.{list_all}
use Rattle.std.specs.Option.{option_or}
use Rattle.std.specs.Str.{bytes_eq}
use Rattle.std.specs.Str.Parse.{digits_value}
use Rattle.std.proofs.lemmas.Bool.{and_from, and_parts, false≢true, ne_eqb, or_left}
use Rattle.std.proofs.lemmas.List.Folds.{list_all-append}
use Rattle.ga_word.specs.Op.{name_of, opcodes}
use Rattle.ga_word.specs.Text.{is_blank}
use Rattle.ga_word.specs.declared.op.Op.{Op}
use Rattle.ga_pack.specs.Model.Layout.{Group, Shared, Alone, Labels, items_of, labels_after, labels_behind, size}
use Rattle.ga_pack.specs.Model.Program.{IsProgram, PlacedItem, PlacedSection, placed_items, placed_sections, tokens_of}
use Rattle.ga_pack.specs.Model.Source as source
use Rattle.ga_pack.specs.Model.Source.{Item, Here, Section, Source, item_tokens, items_tokens, op_tokens, spare_tokens, text_tokens, value_token}
use Rattle.ga_pack.specs.Model.Text.{Place, places_of, texts_of}
use Rattle.ga_pack.specs.Model.Token as token
use Rattle.ga_pack.specs.Model.Token.{Token, as_fixed, as_hex, as_label, as_name, as_node, as_op, fixed, is_letter, is_letter_or_digit, is_name, is_node, label_from, meaning_at, meaning_of, meanings, number_named, numeral, ranged}
use Rattle.ga_pack.specs.declared.error_kind.SourceErrorKind.TheVariants as kind
use Rattle.ga_asm.specs.Assembling.{IsAssembled}
use Rattle.ga_asm.specs.Image.{ImageView, IsImage}
use Rattle.ga_wave.specs.Laws.{LabelsAreWords, labels_are_words}
use Rattle.ga_wave.specs.Reading.{is_word}

-- ---- tokens

-- a label of a text is a name
abbrev is_named : Token → Bool
is_named (token.label name) = is_name name
is_named _ = true

-- the same of a token that may be there
abbrev none_or_named : Option Token → Bool
none_or_named None = true
none_or_named (Some found) = is_named found

named_or : (one other : Option Token) → none_or_named one ≡ true → none_or_named other ≡ true
    → none_or_named (option_or one other) ≡ true
named_or None other e f = f
named_or (Some found) other e f = e

port_named : (number : Option ℕ) → none_or_named (option_map token.number number) ≡ true
port_named None = refl
port_named (Some number) = refl

op_named : (op : Option Op) → none_or_named (option_map token.op op) ≡ true
op_named None = refl
op_named (Some op) = refl

ranged_named : (number : Option ℕ) → none_or_named (option_map ranged number) ≡ true
ranged_named None = refl
ranged_named (Some number) = by (nat_lt number (2 ^ 18))
  where
    by : (small : Bool)
        → is_named (if small then token.number number else token.bad kind.NumberRange) ≡ true
    by true = refl
    by false = refl

-- of some entries each is named, and so is the one that is found
found_named : (test : List ℕ × Token → Bool) (entries : List (List ℕ × Token))
    → list_all (λ entry. is_named entry.1) entries ≡ true
    → none_or_named (option_map (λ entry. entry.1) (find test entries)) ≡ true
found_named test [] e = refl
found_named test (entry ∷ entries) e =
    let (first, rest) =
    and_parts (is_named entry.1) (list_all (λ other. is_named other.1) entries) e in
    by (test entry) first (found_named test entries rest)
  where
    by : (here : Bool) → is_named entry.1 ≡ true
        → none_or_named (option_map (λ other. other.1) (find test entries)) ≡ true
        → none_or_named (option_map (λ other. other.1)
        (if here then Some entry else find test entries)) ≡ true
    by true first rest = first
    by false first rest = rest

hex_named : (text : List ℕ) → none_or_named (as_hex text) ≡ true
hex_named [] = refl
hex_named (first ∷ digits) = by (first == 36)
  where
    by : (dollar : Bool)
        → none_or_named (if dollar then option_map ranged (numeral 16 digits) else None) ≡ true
    by true = ranged_named (numeral 16 digits)
    by false = refl

name_named : (text : List ℕ) → none_or_named (as_name text) ≡ true
name_named text = by (is_name text)
  where
    by : (named : Bool) → none_or_named (if named then Some (token.name text) else None) ≡ true
    by true = refl
    by false = refl

label_named : (front text : List ℕ) → none_or_named (label_from front text) ≡ true
label_named front [] = refl
label_named front (last ∷ []) = by (last == 58) (is_name front) refl
  where
    by : (ends named : Bool) → is_name front ≡ named
        → none_or_named (if ends && named then Some (token.label front) else None) ≡ true
    by true true e = e
    by true false e = refl
    by false named e = refl
label_named front (first ∷ next ∷ text) = label_named (front ++ first ∷ []) (next ∷ text)

node_named : (text : List ℕ) (other : Token) → is_named other ≡ true
    → is_named (unwrap_or (as_node text) other) ≡ true
node_named text other e =
    by ((length text == 3) && list_all (λ c. is_digit c 10) text
    && (nat_lt (digits_value 10 text / 100) 8 && nat_lt (digits_value 10 text % 100) 18))
  where
    by : (named : Bool)
        → is_named (unwrap_or
        (if named then Some (token.node_name (digits_value 10 text)) else None) other)
        ≡ true
    by true = refl
    by false = e

found_or_bad : (found : Option Token) → none_or_named found ≡ true
    → is_named (unwrap_or found (token.bad kind.BadToken)) ≡ true
found_or_bad None e = refl
found_or_bad (Some found) e = e

meaning_named : (text : List ℕ) → is_named (meaning_of text) ≡ true
unfolding meaning_of
meaning_named text =
    let names = option_or (as_label text) (as_name text) in
    let hex = option_or (as_hex text) names in
    let numerals = option_or (option_map ranged (numeral 10 text)) hex in
    let words = option_or (as_fixed text) numerals in
    let ports = option_or (option_map token.number (number_named text)) words in
    found_or_bad (option_or (as_op text) ports)
    (named_or (as_op text) ports (op_named (find (λ o. bytes_eq (name_of o) text) opcodes))
    (named_or (option_map token.number (number_named text)) words
    (port_named (number_named text))
    (named_or (as_fixed text) numerals
    (found_named (λ entry. bytes_eq entry.0 text) fixed refl)
    (named_or (option_map ranged (numeral 10 text)) hex (ranged_named (numeral 10 text))
    (named_or (as_hex text) names (hex_named text)
    (named_or (as_label text) (as_name text) (label_named [] text) (name_named text)))))))

token_named : (behind : Bool) (text : List ℕ) → is_named (meaning_at behind text) ≡ true
unfolding meaning_at
token_named true text = node_named text (meaning_of text) (meaning_named text)
token_named false text = meaning_named text

tokens_named : (behind : Bool) (texts : List (List ℕ))
    → list_all is_named (meanings behind texts) ≡ true
unfolding meanings
tokens_named behind [] = refl
tokens_named behind (text ∷ texts) =
    and_from (is_named (meaning_at behind text))
    (list_all is_named (meanings (is_node (meaning_at behind text)) texts))
    (token_named behind text) (tokens_named (is_node (meaning_at behind text)) texts)

-- ---- items

-- a label among items is a name
abbrev labels_name : Item → Bool
labels_name (Here label) = is_name label
labels_name _ = true

-- tokens behind those of a value, of opcodes and of spare bits
behind_value : (value : source.Value) (rest : List Token)
    → list_all is_named (value_token value ∷ rest) ≡ true → list_all is_named rest ≡ true
behind_value (source.Number number) rest e = e
behind_value (source.Label label) rest e = e

behind_ops : (ops : List Op) (rest : List Token)
    → list_all is_named (op_tokens ops rest) ≡ true → list_all is_named rest ≡ true
behind_ops [] rest e = e
behind_ops (op ∷ ops) rest e = behind_ops ops rest e

behind_spare : (spare : Option ℕ) (rest : List Token)
    → list_all is_named (spare_tokens spare rest) ≡ true → list_all is_named rest ≡ true
behind_spare None rest e = e
behind_spare (Some spare) rest e = e

-- an item, and the tokens behind its own
item_named : (item : Item) (rest : List Token) → list_all is_named (item_tokens item rest) ≡ true
    → (labels_name item ≡ true) × (list_all is_named rest ≡ true)
item_named (source.Instruction op) rest e = (refl, e)
item_named (source.Transfer op value) rest e = (refl, behind_value value rest e)
item_named (source.Literal number) rest e = (refl, e)
item_named (Here label) rest e = and_parts (is_name label) (list_all is_named rest) e
item_named source.Align rest e = (refl, e)
item_named (source.Word ops) rest e = (refl, behind_ops ops (token.close_mark ∷ rest) e)
item_named (source.WordTo ops op value spare) rest e = (
  refl,
  behind_spare spare rest (behind_value value (spare_tokens spare rest)
      (behind_ops ops (token.op op ∷ value_token value ∷ spare_tokens spare rest) e)),
)
item_named (source.Plain value) rest e = (refl, behind_value value rest e)
item_named source.Data rest e = (refl, e)

items_named : (items : List Item) (rest : List Token)
    → list_all is_named (items_tokens items rest) ≡ true
    → (list_all labels_name items ≡ true) × (list_all is_named rest ≡ true)
items_named [] rest e = (refl, e)
items_named (item ∷ items) rest e =
    let (first, behind) = item_named item (items_tokens items rest) e in
    let (others, last) = items_named items rest behind in
    (and_from (labels_name item) (list_all labels_name items) first others, last)

-- ---- labels

differs : (byte blank : ℕ) → is_letter_or_digit byte ≡ true → is_letter_or_digit blank ≡ false
    → (byte == blank) ≡ false
differs byte blank e none =
    ne_eqb byte blank
    (λ same. false≢true (sym none ∙ ap is_letter_or_digit (sym same) ∙ e))

letter_or_digit : (byte : ℕ) → is_letter_or_digit byte ≡ true → not (is_blank byte) ≡ true
letter_or_digit byte e =
    rw (
      differs byte 32 e refl,
      differs byte 9 e refl,
      differs byte 10 e refl,
      differs byte 13 e refl,
    )

letters : (text : List ℕ) → list_all is_letter_or_digit text ≡ true → is_word text ≡ true
letters [] e = refl
letters (byte ∷ text) e =
    let (first, rest) = and_parts (is_letter_or_digit byte) (list_all is_letter_or_digit text) e in
    and_from (not (is_blank byte)) (is_word text) (letter_or_digit byte first) (letters text rest)

name_word : (text : List ℕ) → is_name text ≡ true → is_word text ≡ true
name_word [] e = refl
name_word (byte ∷ text) e =
    let (front, rest) = and_parts (is_letter byte && nat_lt (length text) 16)
    (list_all is_letter_or_digit text) e in
    let (first, short) = and_parts (is_letter byte) (nat_lt (length text) 16) front in
    and_from (not (is_blank byte)) (is_word text)
    (letter_or_digit byte (or_left (is_letter byte) (is_digit byte 10) first)) (letters text rest)

abbrev are_words : Labels → Bool
are_words labels = list_all (λ label. is_word label.0) labels

behind_group : (labels : Labels) (address : ℕ) (item : Item) → labels_name item ≡ true
    → are_words labels ≡ true → are_words (labels_behind labels address (Alone item)) ≡ true
behind_group labels address (Here label) e words =
    list_all-append (λ label. is_word label.0) labels ((label, address) ∷ [])
    ∙ and_from (are_words labels) (is_word label && true) words
    (and_from (is_word label) true (name_word label e) refl)
behind_group labels address item e words = words

behind_groups : (labels : Labels) (address : ℕ) (groups : List Group)
    → list_all labels_name (items_of groups) ≡ true → are_words labels ≡ true
    → are_words (labels_after labels address groups) ≡ true
behind_groups labels address [] e words = words
behind_groups labels address (Shared item items ∷ groups) e words =
    let (first, rest) =
    and_parts (labels_name item) (list_all labels_name (items ++ items_of groups)) e in
    let split = sym (list_all-append labels_name items (items_of groups)) ∙ rest in
    let (own, others) =
    and_parts (list_all labels_name items) (list_all labels_name (items_of groups)) split in
    behind_groups labels (address + size (Shared item items)) groups others words
behind_groups labels address (Alone item ∷ groups) e words =
    let (first, rest) = and_parts (labels_name item) (list_all labels_name (items_of groups)) e in
    behind_groups (labels_behind labels address (Alone item)) (address + size (Alone item)) groups
    rest (behind_group labels address item first words)

image_words : (items : List Item) (image : ImageView) → list_all labels_name items ≡ true
    → IsImage items image → are_words image.labels ≡ true
image_words items image e is =
    ap are_words is.laid.labels_are
    ∙ behind_groups [] 0 is.laid.groups
    (ap (list_all labels_name) is.laid.stand_in.in_order ∙ e) refl

-- ---- programs

-- items without their places
unplaced : (places : List Place) (items : List Item)
    → map (λ (placed : PlacedItem). placed.item) (placed_items places items) ≡ items
unfolding placed_items
unplaced places [] = refl
unplaced places (item ∷ items) =
    ap (λ rest. item ∷ rest) (unplaced (drop (length (item_tokens item [])) places) items)

sections_words : (places : List Place) (sections : List Section) (images : List (ℕ × ImageView))
    → list_all is_named (text_tokens sections) ≡ true
    → IsAssembled (placed_sections places sections) images → labels_are_words images ≡ true
unfolding placed_sections IsAssembled
sections_words places [] [] named assembled = refl
sections_words places [] (image ∷ images) named assembled = absurd assembled
sections_words places (section ∷ sections) [] named assembled = absurd assembled
sections_words places (section ∷ sections) (image ∷ images) named assembled =
    let others = drop (2 + length (items_tokens section.items [])) places in
    let (items, rest) = items_named section.items (text_tokens sections) named in
    let placed = placed_items (drop 2 places) section.items in
    and_from (are_words image.1.labels) (labels_are_words images)
    (image_words (map (λ (one : PlacedItem). one.item) placed) image.1
    (ap (list_all labels_name) (unplaced (drop 2 places) section.items) ∙ items) assembled.1)
    (sections_words others sections images rest assembled.2)

source_named : (tokens : List Token) (sections : List Section) → Source tokens sections
    → list_all is_named tokens ≡ true → list_all is_named (text_tokens sections) ≡ true
unfolding Source
source_named tokens [] source named = absurd source
source_named tokens (section ∷ sections) source named =
    sym (ap (list_all is_named) source.0) ∙ named

program_words : (text : List ℕ) (program : List PlacedSection) (images : List (ℕ × ImageView))
    → IsProgram text program → IsAssembled program images → labels_are_words images ≡ true
unfolding IsProgram tokens_of
program_words text program images (sections, source, is) assembled =
    sections_words (places_of text) sections images
    (source_named (tokens_of text) sections source (tokens_named false (texts_of text)))
    (subst (λ p. IsAssembled p images) is assembled)

pub labels_words : LabelsAreWords
labels_words text images has =
    program_words text has.program images has.program_is has.assembled
