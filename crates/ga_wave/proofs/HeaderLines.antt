-- The lines of the declarations.
use Rattle.std.proofs.Common.{◌≡◌, ◌∙◌, ℕ, ◌+◌, ◌-◌, ◌/◌, ◌%◌, Bool, true, false, List, [], ◌∷◌, ◌++◌, Option, Some, None, ap, append_assoc, arith, codes, refl, subst}
use Rattle.std.specs.Prelude.{if◌then◌else◌, nat_lt}
use Rattle.std.specs.List.{concat, flat_map}
use Rattle.ga_place.specs.Node.{node_text}
use Rattle.ga_place.specs.Side.{neighbour_of}
use Rattle.ga_place.specs.declared.side.Side.{Side}
use Rattle.ga_dump.specs.Side.{side_text}
use Rattle.ga_wave.specs.declared.signal.Signal.{Signal}
use Rattle.ga_wave.specs.declared.signal.Signal.TheVariants as signal
use Rattle.ga_wave.specs.Change.{signal_number}
use Rattle.ga_wave.specs.Header as header
use Rattle.ga_wave.specs.Header.{declared_type, port_name, scope, signal_name}
use Rattle.ga_wave.specs.Identifier.{identifier}
use Rattle.ga_wave.specs.Reading.{behind_declarations, is_word, lines_in}
use Rattle.ga_wave.specs.Signal.{SIGNALS, is_signal}
use Rattle.ga_wave.specs.Wave.{UNIT, numbered}
use Rattle.ga_wave.specs.Wave as wave
use Rattle.ga_wave.proofs.ReadingParts.{IsDeclaration, declaration_line, declarations, each_declaration, no_declaration}
use Rattle.ga_wave.proofs.Words.{is_line, line_append, line_of_word, side_word, visible_word, word_append}

-- ---- words

pub node_word : (node : ℕ) → is_word (node_text node) ≡ true
node_word node =
    let tens = 48 + node / 10 % 10 in
    let ones = 48 + node % 10 in
    visible_word (48 + node / 100) (tens ∷ ones ∷ []) (omega arith)
    (visible_word tens (ones ∷ []) (omega arith) (visible_word ones [] (omega arith) refl))

pub identifier_word : (number : ℕ) → is_word (identifier number) ≡ true
identifier_word number = by (nat_lt number 94)
  where
    by : (short : Bool)
        → is_word (if short then (33 + number) ∷ []
        else (33 + (number / 94 - 1)) ∷ (33 + number % 94) ∷ []) ≡ true
    by true = visible_word (33 + number) [] (omega arith) refl
    by false =
        visible_word (33 + (number / 94 - 1)) ((33 + number % 94) ∷ []) (omega arith)
        (visible_word (33 + number % 94) [] (omega arith) refl)

port_word : (side : Side) (reader : Option ℕ) → is_word (port_name side reader) ≡ true
port_word side None = refl
port_word side (Some reader) =
    word_append (side_text side ++ codes "_to_") (node_text reader)
    (word_append (side_text side) (codes "_to_") (side_word side) refl) (node_word reader)

pub name_word : (node : ℕ) (one : Signal) → is_word (signal_name node one) ≡ true
name_word node (signal.Port side) = port_word side (neighbour_of node side)
name_word node _ = refl

-- ---- lines

type_line : (one : Signal) → is_line (declared_type one) ≡ true
type_line (signal.Port side) = refl
type_line _ = refl

bits_line : (one : Signal) → is_line (header.bits (codes " ") one) ≡ true
bits_line (signal.Port side) = refl
bits_line _ = refl

-- a line of six parts and its end
pub ended : (a b c d e f : List ℕ)
    → (a ++ (b ++ (c ++ (d ++ (e ++ (f ++ codes " $end")))))) ++ 10 ∷ []
    ≡ concat (a ∷ b ∷ c ∷ d ∷ e ∷ f ∷ codes " $end\n" ∷ [])
ended a b c d e f = simp append_assoc

-- the line of a declaration, up to its end
abbrev pub line_of : ℕ → ℕ → Signal → List ℕ
line_of node number one =
    codes "$var " ++ (declared_type one ++ (identifier (signal_number number one)
    ++ (codes " " ++ (signal_name node one ++ (header.bits (codes " ") one ++ codes " $end")))))

pub whole_line : (node number : ℕ) (one : Signal) → is_line (line_of node number one) ≡ true
whole_line node number one =
    let id = identifier (signal_number number one) in
    let bits = header.bits (codes " ") one in
    let back = codes " " ++ (signal_name node one ++ (bits ++ codes " $end")) in
    line_append (codes "$var ") (declared_type one ++ (id ++ back)) refl
    (line_append (declared_type one) (id ++ back) (type_line one)
    (line_append id back (line_of_word id (identifier_word (signal_number number one)))
    (line_append (signal_name node one) (bits ++ codes " $end")
    (line_of_word (signal_name node one) (name_word node one))
    (line_append bits (codes " $end") (bits_line one) refl))))

declared : (node number : ℕ) (one : Signal) → IsDeclaration (header.declaration node number one)
declared node number one = by (is_signal node one)
  where
    by : (has : Bool)
        → IsDeclaration (if has
        then concat (codes "$var " ∷ declared_type one ∷ identifier (signal_number number one)
        ∷ codes " " ∷ signal_name node one ∷ header.bits (codes " ") one ∷ codes " $end\n" ∷ [])
        else [])
    by true =
        subst IsDeclaration
        (ended (codes "$var ") (declared_type one) (identifier (signal_number number one))
        (codes " ") (signal_name node one) (header.bits (codes " ") one))
        (declaration_line (line_of node number one) (whole_line node number one) refl)
    by false = no_declaration

pub whole_beginning : (node : ℕ)
    → is_line (codes "$scope module n" ++ node_text node ++ codes " $end") ≡ true
whole_beginning node =
    line_append (codes "$scope module n" ++ node_text node) (codes " $end")
    (line_append (codes "$scope module n") (node_text node) refl
    (line_of_word (node_text node) (node_word node))) refl

scope_declared : (node number : ℕ) → IsDeclaration (scope node number)
unfolding scope header.declarations
scope_declared node number =
    let front = header.beginning node in
    let line = codes "$scope module n" ++ node_text node ++ codes " $end" in
    let signals = flat_map (header.declaration node number) SIGNALS in
    declarations (front ++ signals) (codes "$upscope $end\n")
    (declarations front signals
    (declaration_line line (whole_beginning node) refl)
    (each_declaration (header.declaration node number) (declared node number) SIGNALS))
    (declaration_line (codes "$upscope $end") refl refl)

unit_declared : IsDeclaration UNIT
unfolding UNIT
unit_declared =
    declarations
    (codes "$comment ga-bench: 1 ns is a turn of the chip $end\n" ++ codes "$timescale 1 ns $end\n")
    (codes "$scope module chip $end\n")
    (declarations (codes "$comment ga-bench: 1 ns is a turn of the chip $end\n")
    (codes "$timescale 1 ns $end\n")
    (declaration_line (codes "$comment ga-bench: 1 ns is a turn of the chip $end") refl refl)
    (declaration_line (codes "$timescale 1 ns $end") refl refl))
    (declaration_line (codes "$scope module chip $end") refl refl)

-- what stands behind the declarations
pub behind_header : (names rest : List ℕ)
    → behind_declarations (lines_in (wave.header names ++ rest)) ≡ lines_in rest
unfolding wave.header
behind_header names rest =
    let scopes = flat_map (λ (node : ℕ × ℕ). scope node.1 node.0) (numbered names) in
    let end = codes "$upscope $end\n$enddefinitions $end\n" in
    ap (λ text. behind_declarations (lines_in text)) (append_assoc (UNIT ++ scopes) end rest)
    ∙ (declarations UNIT scopes unit_declared
    (each_declaration (λ (node : ℕ × ℕ). scope node.1 node.0)
    (λ node. scope_declared node.1 node.0) (numbered names))).skipped (end ++ rest)
