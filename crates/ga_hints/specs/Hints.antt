-- What may help with a fault of a source text.
use Rattle.std.specs.Prelude.{◌≡◌, ◌==◌, ◌&&◌, ◌++◌, ℕ, Bool, false, not, List, [], ◌∷◌, codes, slice_get, string_bytes, Option, Some, None, if◌then◌else◌}
use Rattle.std.specs.List.{find}
use Rattle.std.specs.Option.{option_and_then, option_map, option_or}
use Rattle.ga_pack.specs.Model.Program.{IsProgram, PlacedSection}
use Rattle.ga_pack.specs.Model.Source.{Item}
use Rattle.ga_pack.specs.Model.Text.{texts_of}
use Rattle.ga_pack.specs.Model.Token.{is_name}
use Rattle.ga_pack.specs.declared.error_kind.AsmErrorKind.{AsmErrorKind}
use Rattle.ga_pack.specs.declared.error_kind.AsmErrorKind.TheVariants.{TooLong, UndefinedLabel}
use Rattle.ga_pack.specs.declared.error_kind.SourceErrorKind.{SourceErrorKind}
use Rattle.ga_pack.specs.declared.error_kind.SourceErrorKind.TheVariants as source_kind
use Rattle.ga_source.specs.Error as source
use Rattle.ga_source.specs.Program.{sections_in}
use Rattle.ga_source.specs.declared.error.SourceError.{SourceError}
use Rattle.ga_asm.specs.Error as assembly
use Rattle.ga_asm.specs.declared.error.AsmError.{AsmError}
use Rattle.ga_expand.specs.Constants.{is_among}
use Rattle.ga_expand.specs.Error as expansion
use Rattle.ga_expand.specs.Operand.{is_expression}
use Rattle.ga_expand.specs.Texts.{IsExpansion}
use Rattle.ga_expand.specs.declared.error.ExpandErrorKind.{ExpandErrorKind}
use Rattle.ga_expand.specs.declared.error.ExpandErrorKind.TheVariants as expand_kind
use Rattle.ga_expand.specs.declared.expansion.Expansion.{Expansion}
use Rattle.ga_faults.specs.Sections.{part_at, part_of}
use Rattle.ga_faults.specs.declared.fault.Fault.{Fault}
use Rattle.ga_faults.specs.declared.fault.Fault.TheVariants.{Asm, Expand, Source}
use Rattle.ga_hints.specs.Bodies.{first_open}
use Rattle.ga_hints.specs.Names.{begins_definition, bodies_in, constants_in, first_words, is_known, is_use, language_words, last_of, names_for_expand, names_for_label, names_for_source, word_at, words_before}
use Rattle.ga_hints.specs.Nearest.{nearest_of}
use Rattle.ga_hints.specs.Size.{size_of, size_text}
use Rattle.ga_hints.specs.declared.hint_kind.Hint as written
use Rattle.ga_hints.specs.declared.hint_kind.Hint.TheVariants as hint
use Rattle.ga_hints.specs.declared.size.Size.{Size}

-- a hint, with the bytes of the name
pub data Hint : Type 0 where
  Nearest : List ℕ → Hint
  Needs : Size → Hint
  Body : List ℕ → Hint
  Label : List ℕ → Hint
  Expression : Hint
  Definition : Hint
  OpenBody : List ℕ → Hint

abbrev pub hint_of : written.Hint → Hint
hint_of (hint.Nearest name) = Nearest (string_bytes name)
hint_of (hint.Needs size) = Needs size
hint_of (hint.Body name) = Body (string_bytes name)
hint_of (hint.Label name) = Label (string_bytes name)
hint_of hint.Expression = Expression
hint_of hint.Definition = Definition
hint_of (hint.OpenBody name) = OpenBody (string_bytes name)

-- ---- a name that may have been meant

-- the one of some names that is nearest to a word, if one is near
abbrev pub nearest_hint : List (List ℕ) → List ℕ → Option Hint
nearest_hint names word = option_map Nearest (nearest_of word names)

-- `&` and a label is the address of the label
abbrev pub label_in : List ℕ → List ℕ
label_in [] = []
label_in (c ∷ word) = if c == 38 then word else c ∷ word

abbrev pub is_address : List ℕ → Bool
is_address [] = false
is_address (c ∷ word) = c == 38

-- A word is the name of a label of a node, which has these items and not that label. The constants
-- that may be meant are those of a part.
abbrev pub label_hint : List ℕ → List Item → List ℕ → Option Hint
label_hint part items word =
    nearest_hint (names_for_label (is_address word) items (texts_of part)) (label_in word)

-- ---- a fault of a program

-- what may help with a fault of the items of a node, at a word, if it is at one
abbrev pub items_hint : AsmErrorKind → List ℕ → Option (List ℕ) → List Item → Option Hint
items_hint UndefinedLabel part word items = option_and_then (label_hint part items) word
items_hint TooLong part word items = Some (Needs (size_of items))
items_hint kind part word items = None

-- the items of a node of a program
abbrev pub items_of : List PlacedSection → ℕ → Option (List Item)
items_of program node =
    option_map (λ section. section.items)
    (find (λ section. node == section.name) (sections_in program))

-- what may help with a fault of a text, which is one of the program of a part
abbrev pub program_hint : List ℕ → List ℕ → AsmError → List PlacedSection → Option Hint
program_hint text part error program =
    option_and_then
    (items_hint error.kind part (word_at text (assembly.error_place error)))
    (items_of program error.node)

-- the program of the text that a text expands to
abbrev pub ExpandsTo : List ℕ → List PlacedSection → Type 0
ExpandsTo text program =
    (made : Expansion) × IsExpansion text made × IsProgram (string_bytes made.text) program

-- that program, if there is one
abbrev pub IsProgramOf : List ℕ → Option (List PlacedSection) → Type 0
IsProgramOf text (Some program) = ExpandsTo text program
IsProgramOf text None = (program : List PlacedSection) → ExpandsTo text program → ⊥

-- What may help with a fault of the program of the part of a text that has its line, or its node at
-- a line of a shared body. So faults of other sections don't matter.
abbrev pub IsProgramHint : List ℕ → AsmError → Option Hint → Type 0
IsProgramHint text error hint =
    let part = part_of text error.line error.node in
    (program : Option (List PlacedSection)) × IsProgramOf part program
    × (hint ≡ option_and_then (program_hint text part error) program)

-- ---- a fault of the text that a text expands to

-- a word with `:` behind it defines a label
abbrev pub label_of : List ℕ → List ℕ
label_of word = word ++ codes ":"

-- one of these tokens defines a word as a label: the word is a name, and none of the language
abbrev pub is_label : List (List ℕ) → List ℕ → Bool
is_label tokens word =
    is_name word && not (is_among language_words word) && is_among tokens (label_of word)

-- a body is used by `use` in front of its name, unless that is there already
abbrev pub body_hint : Option (List ℕ) → List ℕ → Option Hint
body_hint front word = if is_use front then None else Some (Body word)

-- What may help with a word that means nothing, behind some tokens of a text and in a part with
-- these tokens.
abbrev pub bad_token_hint : List (List ℕ) → List (List ℕ) → List (List ℕ) → List ℕ → Option Hint
bad_token_hint all before tokens word =
    if is_among (bodies_in tokens) word then body_hint (last_of before) word
    else if is_label tokens word then Some (Label word)
    else if is_expression (constants_in tokens) word then Some Expression
    else if begins_definition word then Some Definition
    else if is_known all word then None
    else nearest_hint (names_for_source tokens) word

-- the same at a fault of a kind, with the part that has its line
abbrev pub source_word_hint : SourceErrorKind → List (List ℕ) → List (List ℕ) → List ℕ → List ℕ
    → Option Hint
source_word_hint source_kind.BadToken all before part word =
    bad_token_hint all before (texts_of part) word
source_word_hint source_kind.NoNode all before part word = nearest_hint first_words word
source_word_hint kind all before part word = None

abbrev pub source_hint : List ℕ → SourceError → Option Hint
source_hint text error =
    let place = source.error_place error in
    option_and_then
    (source_word_hint error.kind (texts_of text) (words_before text place)
    (part_at text error.line))
    (word_at text place)

-- ---- a fault of the definitions

-- The bodies of a text with these tokens that may lack the `end` at a fault behind some of them:
-- those in front of an unknown one; or all, if a definition isn't complete.
abbrev pub bodies_at : ExpandErrorKind → List (List ℕ) → List (List ℕ) → List (List ℕ)
bodies_at expand_kind.UnknownBody tokens before = bodies_in before
bodies_at expand_kind.OpenDefinition tokens before = bodies_in tokens
bodies_at kind tokens before = []

-- the first body that has no `end`, if it is one of those
abbrev pub open_body_hint : ExpandErrorKind → List (List ℕ) → List (List ℕ) → Option Hint
open_body_hint kind tokens before =
    option_map OpenBody
    (option_and_then (slice_get (bodies_at kind tokens before)) (first_open tokens))

-- what may help with a word of a text with these tokens, behind some of them
abbrev pub expand_word_hint : ExpandErrorKind → List (List ℕ) → List (List ℕ) → List ℕ
    → Option Hint
expand_word_hint kind tokens before word =
    option_or (nearest_hint (names_for_expand kind before word) word)
    (open_body_hint kind tokens before)

abbrev pub expand_hint : List ℕ → expansion.Fault → Option Hint
expand_hint text fault =
    option_and_then
    (expand_word_hint fault.kind (texts_of text) (words_before text fault.place))
    (word_at text fault.place)

-- ---- all faults

-- what may help with a fault of a text, if anything does
abbrev pub IsHint : List ℕ → Fault → Option Hint → Type 0
IsHint text (Expand error) hint = hint ≡ expand_hint text (expansion.fault_of error)
IsHint text (Source error) hint = hint ≡ source_hint text error
IsHint text (Asm error) hint = IsProgramHint text error hint

-- ---- how a hint is written

abbrev pub hint_text : written.Hint → List ℕ
hint_text (hint.Nearest name) = codes "the nearest name is " ++ string_bytes name
hint_text (hint.Needs size) = size_text size
hint_text (hint.Body name) =
    string_bytes name ++ codes " is a body: use " ++ string_bytes name
hint_text (hint.Label name) =
    string_bytes name ++ codes " is a label: call " ++ string_bytes name ++ codes ", or &"
    ++ string_bytes name ++ codes " for its address; in data , " ++ string_bytes name
hint_text hint.Expression = codes "an expression stands only behind const"
hint_text hint.Definition = codes "definitions come first"
hint_text (hint.OpenBody name) = codes "the body " ++ string_bytes name ++ codes " has no end"
