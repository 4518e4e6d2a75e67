-- The identifiers that are declared are found by the names of scopes and variables.
use Rattle.std.proofs.Common.{◌≡◌, ◌∙◌, ℕ, ◌+◌, Bool, true, false, List, [], ◌∷◌, ◌++◌, Option, Some, None, ap, ap₂, append_assoc, arith, codes, drop, refl, subst, sym}
use Rattle.std.specs.Prelude.{◌&&◌, if◌then◌else◌}
use Rattle.std.specs.List.{AllByRecursion, concat, flat_map, list_any, range_with_len, slice_get}
use Rattle.std.specs.Option.{option_and_then}
use Rattle.std.specs.Str.{bytes_eq}
use Rattle.std.proofs.lemmas.Bool.{and_from, and_parts}
use Rattle.std.proofs.lemmas.Slice.Eq.{bytes_eq-Decides}
use Rattle.ga_place.specs.Node.{node_text}
use Rattle.ga_wave.specs.declared.signal.Signal.{Signal}
use Rattle.ga_wave.specs.Change.{signal_number}
use Rattle.ga_wave.specs.Header as header
use Rattle.ga_wave.specs.Header.{declared_type, signal_name}
use Rattle.ga_wave.specs.Identifier.{identifier}
use Rattle.ga_wave.specs.Laws.{IdentifiersAreDeclared, scope_of}
use Rattle.ga_wave.specs.Signal.{SIGNALS, is_signal, position_of}
use Rattle.ga_wave.specs.Variables.{declared_identifier, same_scope, scopes_behind}
use Rattle.ga_wave.specs.Wave.{UNIT, numbered, shown_names, turn_text, time_line, waveform}
use Rattle.ga_wave.specs.Wave as wave
use Rattle.ga_wave.proofs.HeaderLines.{ended, whole_beginning, line_of, node_word, whole_line}
use Rattle.ga_wave.proofs.NamesDiffer.{IsNumbered, one_number, same_node, same_signal}
use Rattle.ga_wave.proofs.OneOfMany.{any_at, each, numbered_at, place_of, same_text}
use Rattle.ga_wave.proofs.ReadingParts.{neither, or_none}
use Rattle.ga_wave.proofs.VariableLines.{Declares, declared_by, declares_both, declares_none, line_declares, next_word, some_declares, variable_line}

-- ---- the signals of a node

module _ (nodes : List ℕ) (number name : ℕ) (signal : Signal)
    (at : slice_get (shown_names nodes) number ≡ Some name)
    (has : is_signal name signal ≡ true) where
  abbrev sought : List ℕ
  sought = signal_name name signal

  abbrev id : List ℕ
  id = identifier (signal_number number signal)

  -- what a part declares for the signal
  abbrev Finds : List (List ℕ) → List (List ℕ) → List ℕ → Option (List ℕ) → Type 0
  Finds = Declares (scope_of name) sought

  -- whether this is the signal
  abbrev is_sought : ℕ → Signal → Bool
  is_sought node one =
      is_signal node one && (same_scope (scope_of node) (scope_of name)
      && bytes_eq (signal_name node one) sought)

  -- a node in this scope is this node
  node_of_scope : (node : ℕ) → same_scope (scope_of node) (scope_of name) ≡ true → node ≡ name
  node_of_scope node same =
      let (first, rest) =
      and_parts (bytes_eq (codes "n" ++ node_text node) (codes "n" ++ node_text name)) true same in
      let texts : codes "n" ++ node_text node ≡ codes "n" ++ node_text name =
      (bytes_eq-Decides (codes "n" ++ node_text node) (codes "n" ++ node_text name)).0 first in
      same_node node name (ap (drop 1) texts)

  -- what the line of a variable declares
  variable_declares : (node other : ℕ) (one : Signal)
      → Finds (scope_of node) (scope_of node) (line_of node other one ++ 10 ∷ [])
      (if same_scope (scope_of node) (scope_of name)
      then (if bytes_eq (signal_name node one) sought
      then Some (identifier (signal_number other one)) else None) else None)
  variable_declares node other one =
      let line = variable_line node other one in
      subst (Finds (scope_of node) (scope_of node) (line_of node other one ++ 10 ∷ []))
      (ap (λ found. if same_scope (scope_of node) (scope_of name)
      then option_and_then (λ (variable : List ℕ × List ℕ). if bytes_eq variable.0 sought
      then Some variable.1 else None) found else None) line.variable)
      (line_declares (scope_of name) sought (scope_of node) (scope_of node)
      (line_of node other one) (whole_line node other one) refl (line.scopes (scope_of node)))

  -- it is the identifier, if the line is that of the signal
  found_is : (node : ℕ × ℕ) → IsNumbered number name node → (one : Signal)
      → is_signal node.1 one ≡ true → (same named : Bool)
      → same_scope (scope_of node.1) (scope_of name) ≡ same
      → bytes_eq (signal_name node.1 one) sought ≡ named
      → (if same then (if named then Some (identifier (signal_number node.0 one)) else None)
      else None)
      ≡ (if (same && named) then Some id else None)
  found_is node numbered one shown true true e f =
      let names : node.1 ≡ name = node_of_scope node.1 e in
      let numbers : node.0 ≡ number = numbered names in
      let texts : signal_name node.1 one ≡ sought =
      (bytes_eq-Decides (signal_name node.1 one) sought).0 f in
      let signals : one ≡ signal =
      same_signal name one signal (ap (λ n. is_signal n one) (sym names) ∙ shown) has
      (ap (λ n. signal_name n one) (sym names) ∙ texts) in
      ap₂ (λ n s. Some (identifier (signal_number n s))) numbers signals
  found_is node numbered one shown true false e f = refl
  found_is node numbered one shown false named e f = refl

  signal_declares : (node : ℕ × ℕ) → IsNumbered number name node → (one : Signal)
      → Finds (scope_of node.1) (scope_of node.1) (header.declaration node.1 node.0 one)
      (if is_sought node.1 one then Some id else None)
  signal_declares node numbered one = by (is_signal node.1 one) refl
    where
      by : (shown : Bool) → is_signal node.1 one ≡ shown
          → Finds (scope_of node.1) (scope_of node.1)
          (if shown
          then concat (codes "$var " ∷ declared_type one ∷ identifier (signal_number node.0 one)
          ∷ codes " " ∷ signal_name node.1 one ∷ header.bits (codes " ") one ∷ codes " $end\n" ∷ [])
          else [])
          (if (shown && (same_scope (scope_of node.1) (scope_of name)
          && bytes_eq (signal_name node.1 one) sought)) then Some id else None)
      by true shown =
          subst (Finds (scope_of node.1) (scope_of node.1)
          (concat (codes "$var " ∷ declared_type one ∷ identifier (signal_number node.0 one)
          ∷ codes " " ∷ signal_name node.1 one ∷ header.bits (codes " ") one
          ∷ codes " $end\n" ∷ [])))
          (found_is node numbered one shown (same_scope (scope_of node.1) (scope_of name))
          (bytes_eq (signal_name node.1 one) sought) refl refl)
          (subst (λ text. Finds (scope_of node.1) (scope_of node.1) text
          (if same_scope (scope_of node.1) (scope_of name)
          then (if bytes_eq (signal_name node.1 one) sought
          then Some (identifier (signal_number node.0 one)) else None) else None))
          (ended (codes "$var ") (declared_type one) (identifier (signal_number node.0 one))
          (codes " ") (signal_name node.1 one) (header.bits (codes " ") one))
          (variable_declares node.1 node.0 one))
      by false shown = declares_none (scope_of name) sought (scope_of node.1)

  -- ---- the nodes

  -- the scope around those of the nodes
  abbrev chip : List (List ℕ)
  chip = codes "chip" ∷ []

  begins : (node : ℕ) → Finds chip (scope_of node) (header.beginning node) None
  begins node =
      line_declares (scope_of name) sought chip (scope_of node)
      (codes "$scope module n" ++ node_text node ++ codes " $end") (whole_beginning node) refl
      (ap (λ words. scopes_behind chip (codes "$scope" ∷ codes "module" ∷ words))
      (next_word (codes "n" ++ node_text node) (codes "$end") (node_word node)))

  ends : (node : ℕ) → Finds (scope_of node) chip (codes "$upscope $end\n") None
  ends node =
      subst (Finds (scope_of node) chip (codes "$upscope $end\n"))
      (neither (same_scope (scope_of node) (scope_of name)))
      (line_declares (scope_of name) sought (scope_of node) chip (codes "$upscope $end") refl refl
      refl)

  -- whether a node has the signal
  abbrev has_sought : ℕ × ℕ → Bool
  has_sought node = list_any (is_sought node.1) SIGNALS

  node_declares : (node : ℕ × ℕ) → IsNumbered number name node
      → Finds chip chip (header.scope node.1 node.0)
      (if has_sought node then Some id else None)
  unfolding header.scope header.declarations
  node_declares node numbered =
      let found = if has_sought node then Some id else None in
      let front = header.beginning node.1 in
      let signals = flat_map (header.declaration node.1 node.0) SIGNALS in
      let end = codes "$upscope $end\n" in
      subst (Finds chip chip (front ++ signals ++ end)) (or_none found)
      (declares_both (scope_of name) sought chip (scope_of node.1) chip (front ++ signals) end found
      None
      (declares_both (scope_of name) sought chip (scope_of node.1) (scope_of node.1) front signals
      None found (begins node.1)
      (some_declares (scope_of name) sought (scope_of node.1)
      (header.declaration node.1 node.0) (is_sought node.1) (Some id) SIGNALS
      (each (λ one. Finds (scope_of node.1) (scope_of node.1)
      (header.declaration node.1 node.0 one) (if is_sought node.1 one then Some id else None))
      (signal_declares node numbered) SIGNALS)))
      (ends node.1))

  nodes_declare : (all : List (ℕ × ℕ)) → AllByRecursion (IsNumbered number name) all
      → AllByRecursion (λ node. Finds chip chip
      (header.scope node.1 node.0) (if has_sought node then Some id else None)) all
  nodes_declare [] numbered = tt
  nodes_declare (node ∷ all) numbered =
      (node_declares node numbered.0, nodes_declare all numbered.1)

  -- the scopes of all nodes
  scopes_declare : Finds chip chip
      (flat_map (λ (node : ℕ × ℕ). header.scope node.1 node.0) (numbered (shown_names nodes)))
      (Some id)
  scopes_declare =
      let all = numbered (shown_names nodes) in
      let none_more : 0 + number ≡ number = omega arith in
      let place = numbered_at 0 number name (shown_names nodes) at
      ∙ ap (λ n. Some (n, name)) none_more in
      let scopes : same_scope (scope_of name) (scope_of name) ≡ true =
      and_from (bytes_eq (codes "n" ++ node_text name) (codes "n" ++ node_text name)) true
      (same_text (codes "n" ++ node_text name)) refl in
      let own : is_sought name signal ≡ true =
      and_from (is_signal name signal) (same_scope (scope_of name) (scope_of name)
      && bytes_eq sought sought) has
      (and_from (same_scope (scope_of name) (scope_of name)) (bytes_eq sought sought) scopes
      (same_text sought)) in
      let found : list_any has_sought all ≡ true =
      any_at has_sought all number (number, name) place
      (any_at (is_sought name) SIGNALS (position_of signal) signal (place_of signal) own) in
      subst (λ some. Finds chip chip
      (flat_map (λ (node : ℕ × ℕ). header.scope node.1 node.0) all)
      (if some then Some id else None)) found
      (some_declares (scope_of name) sought chip
      (λ (node : ℕ × ℕ). header.scope node.1 node.0) has_sought (Some id) all
      (nodes_declare all (one_number nodes number name at)))

  -- the declarations in front of the nodes
  unit_declares : Finds [] chip UNIT None
  unfolding UNIT
  unit_declares =
      let comment = codes "$comment ga-bench: 1 ns is a turn of the chip $end" in
      let scale = codes "$timescale 1 ns $end" in
      declares_both (scope_of name) sought [] [] chip
      (codes "$comment ga-bench: 1 ns is a turn of the chip $end\n"
      ++ codes "$timescale 1 ns $end\n") (codes "$scope module chip $end\n") None None
      (declares_both (scope_of name) sought [] [] []
      (codes "$comment ga-bench: 1 ns is a turn of the chip $end\n")
      (codes "$timescale 1 ns $end\n") None None
      (line_declares (scope_of name) sought [] [] comment refl refl refl)
      (line_declares (scope_of name) sought [] [] scale refl refl refl))
      (line_declares (scope_of name) sought [] chip (codes "$scope module chip $end") refl refl
      refl)

  pub header_declares : (rest : List ℕ)
      → declared_by (scope_of name) sought [] (wave.header (shown_names nodes) ++ rest) ≡ Some id
  unfolding wave.header
  header_declares rest =
      let scopes =
      flat_map (λ (node : ℕ × ℕ). header.scope node.1 node.0) (numbered (shown_names nodes)) in
      let end = codes "$upscope $end\n$enddefinitions $end\n" in
      ap (declared_by (scope_of name) sought []) (append_assoc (UNIT ++ scopes) end rest)
      ∙ (declares_both (scope_of name) sought [] chip chip UNIT scopes None (Some id) unit_declares
      scopes_declare).read (end ++ rest)

pub identifiers_declared : IdentifiersAreDeclared
unfolding declared_identifier waveform
identifiers_declared images nodes start number name signal turns at has =
    let names = shown_names nodes in
    let blocks = flat_map (turn_text images names start) (range_with_len 0 turns) in
    ap (declared_by (scope_of name) (signal_name name signal) [])
    (append_assoc (wave.header names) blocks (time_line turns))
    ∙ header_declares nodes number name signal at has (blocks ++ time_line turns)
