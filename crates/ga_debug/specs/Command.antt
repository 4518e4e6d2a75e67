-- Which words are which command, or else which word is the first bad one.
use Rattle.std.specs.Prelude.{ℕ, zero, suc, ◌-◌, ◌==◌, Bool, false, List, [], ◌∷◌, codes, drop, eqb, min, replicate, set, Option, Some, None, is_some, ok_or, option_map, Result, Ok, Err, if◌then◌else◌}
use Rattle.std.specs.List.{starts_with}
use Rattle.std.specs.Option.{option_and_then, option_or}
use Rattle.std.specs.Str.{bytes_eq}
use Rattle.ga_path.specs.Stream.{Images}
use Rattle.ga_place.specs.Node.{node_named}
use Rattle.ga_place.specs.declared.side.Side.{Side}
use Rattle.ga_place.specs.declared.side.Side.TheVariants.{Right}
use Rattle.ga_trace.specs.declared.what.Register.TheVariants.{P}
use Rattle.ga_trace.specs.declared.what.Value.{Value}
use Rattle.ga_trace.specs.declared.what.What.{What}
use Rattle.ga_trace.specs.declared.what.What.TheVariants.{Register as OfRegister, Memory, Pending, Written, Read, At, Stopped}
use Rattle.ga_debug.specs.declared.command.Arguments.{Arguments}
use Rattle.ga_debug.specs.declared.command.Command.{Command}
use Rattle.ga_debug.specs.declared.error.DebugError.{DebugError}
use Rattle.ga_debug.specs.declared.error.DebugError.TheVariants.{BadAddress, BadCommand, BadCount, BadNode, BadSide, BadValue}
use Rattle.ga_debug.specs.declared.row.Scope.{Scope}
use Rattle.ga_debug.specs.declared.row.Scope.TheVariants.{Sessions, Transcripts}
use Rattle.ga_debug.specs.declared.row.Shape.{Shape}
use Rattle.ga_debug.specs.declared.row.Shape.TheVariants as shape
use Rattle.ga_debug.specs.Pieces.{pieces}
use Rattle.ga_debug.specs.Commands.{shapes_in, verb_named}
use Rattle.ga_debug.specs.Values.{plain_what, side_named, value_in}
use Rattle.ga_debug.specs.Label.{address_in, memory_in}
use Rattle.ga_debug.specs.Word.{count_of, side_of}

abbrev pub Words : Type 0
Words = List (List ℕ)

-- the words of a line, with one space between two
abbrev pub words_of : List ℕ → Words
words_of line = pieces 32 line

-- whether the first of them names a command of transcripts
abbrev pub first_names : Words → Bool
first_names [] = false
first_names (word ∷ rest) = is_some (verb_named Transcripts word)

abbrev pub names_command : List ℕ → Bool
names_command line = first_names (words_of line)

-- What words begin with, and the words behind it; or a fault.
abbrev pub First : Type 0 → Type 0
First A = Result (A × Words) DebugError

-- what comes behind it
abbrev pub then_with : {A B : Type 0} → First A → (A → Words → Result B DebugError)
    → Result B DebugError
then_with (Ok (value, rest)) next = next value rest
then_with (Err fault) next = Err fault

-- the first word, as it is read; a word that is missing is a bad one
abbrev pub first_word : {A : Type 0} → (List ℕ → Option A) → DebugError → Words → First A
first_word read fault [] = Err fault
first_word read fault (word ∷ rest) = ok_or (option_map (λ value. (value, rest)) (read word)) fault

-- the arguments of a command that has none
abbrev pub NOTHING : Arguments
NOTHING = record {
  node = 0;
  address = 0;
  side = Right;
  count = 0;
  passes = 0;
  from = None;
  what = OfRegister P;
  values = replicate 8 None;
}

-- one more argument by a word, which may speak of those in front of it
abbrev pub word_read : Images → Shape → Arguments → List ℕ → Option Arguments
word_read images shape.Node given word =
    option_map (λ node. record given { node = node }) (node_named word)
word_read images shape.Address given word =
    option_map (λ address. record given { address = address }) (address_in images given.node word)
word_read images shape.Side given word =
    option_map (λ side. record given { side = side }) (side_of word)
word_read images other given word =
    option_map (λ count. record given { count = count }) (count_of word)

-- what a word is that isn't so
abbrev pub fault_of : Shape → DebugError
fault_of shape.Node = BadNode
fault_of shape.Address = BadAddress
fault_of shape.Side = BadSide
fault_of other = BadCount

-- a count, or no word, for this one
abbrev pub count_or : ℕ → Arguments → Words → First Arguments
count_or count given [] = Ok (record given { count = count }, [])
count_or count given words =
    first_word (λ word. option_map (λ count. record given { count = count }) (count_of word))
    BadCount words

-- `x` and how often an address is passed, if the next word begins so
abbrev pub passes_read : Arguments → Words → First Arguments
passes_read given [] = Ok (given, [])
passes_read given (word ∷ words) =
    if starts_with eqb word (codes "x")
    then
    ok_or (option_map (λ passes. (record given { passes = passes }, words))
    (count_of (drop 1 word))) BadCount
    else Ok (given, word ∷ words)

-- a count that isn't 0
abbrev pub some_count : List ℕ → Option ℕ
some_count word =
    option_and_then (λ count. if count == 0 then None else Some count) (count_of word)

-- an address of memory, or no word
abbrev pub from_read : Images → Arguments → Words → First Arguments
from_read images given [] = Ok (given, [])
from_read images given (word ∷ words) =
    ok_or (option_map (λ address. (record given { from = Some address }, words))
    (memory_in images given.node word)) BadAddress

-- how many words from an address on; a count that is left out is 1
abbrev pub range_behind : Arguments → ℕ → Words → First Arguments
range_behind given address [] = Ok (record given { address = address; count = 1 }, [])
range_behind given address words =
    first_word (λ word. option_map (λ count. record given { address = address; count = count })
    (some_count word)) BadCount words

-- an address of memory and a count, or no word
abbrev pub range_read : Images → Arguments → Words → First Arguments
range_read images given [] = Ok (given, [])
range_read images given (word ∷ words) =
    elim (memory_in images given.node word) [
      | None ↦ Err BadAddress
      | Some address ↦ range_behind given address words
    ]

-- What a node shows: by a side, and a word behind it that says what of its port,
abbrev pub port_what : Side → Words → What × Words
port_what side [] = (Pending side, [])
port_what side (word ∷ words) =
    if bytes_eq word (codes "written") then (Written side, words)
    else if bytes_eq word (codes "read") then (Read side, words)
    else (Pending side, word ∷ words)

-- or by one word
abbrev pub what_first : Images → ℕ → List ℕ → Words → Option Side → First What
what_first images node word words (Some side) = Ok (port_what side words)
what_first images node word words None =
    ok_or (option_map (λ what. (what, words)) (plain_what images node word)) BadValue

abbrev pub what_read : Images → Arguments → Words → First Arguments
what_read images given [] = Err BadValue
what_read images given (word ∷ words) =
    then_with (what_first images given.node word words (side_named word))
    (λ what rest. Ok (record given { what = what }, rest))

-- Values of what a node shows, and the words behind them: at most `left` of them are put into a
-- list from a place on. The list has room for eight.
abbrev pub values_from : Images → ℕ → What → ℕ → ℕ → List (Option Value) → Words
    → Option (List (Option Value) × Words)
values_from images node what zero index values words = Some (values, words)
values_from images node what (suc left) index values [] = Some (values, [])
values_from images node what (suc left) index values (word ∷ words) =
    option_and_then (λ value. values_from images node what left (suc index)
    (set values index (Some value)) words) (value_in images node what word)

-- at least one
abbrev pub values_in : Images → ℕ → What → ℕ → Words → Option (List (Option Value) × Words)
values_in images node what most [] = None
values_in images node what most words =
    values_from images node what most 0 (replicate 8 None) words

-- up to eight words of memory, but none behind the last one, or one value of all else
abbrev pub most_values : What → ℕ
most_values (Memory address) = min 8 (64 - address)
most_values what = 1

abbrev pub some_values : Images → ℕ → Arguments → Words → First Arguments
some_values images most given words =
    ok_or (option_map (λ (found : List (Option Value) × Words).
    (record given { values = found.0 }, found.1))
    (values_in images given.node given.what most words)) BadValue

abbrev pub values_read : Images → Arguments → Words → First Arguments
values_read images given words = some_values images (most_values given.what) given words

-- `=` and one value, or no word
abbrev pub goal_read : Images → Arguments → Words → First Arguments
goal_read images given [] = Ok (given, [])
goal_read images given (word ∷ words) =
    if bytes_eq word (codes "=") then some_values images 1 given words else Err BadValue

abbrev pub shape_read : Images → Shape → Arguments → Words → First Arguments
shape_read images shape.CountIf given words = count_or 1000000 given words
shape_read images shape.OneIf given words = count_or 1 given words
shape_read images shape.PassesIf given words = passes_read given words
shape_read images shape.AddressIf given words = from_read images given words
shape_read images shape.RangeIf given words = range_read images given words
shape_read images shape.What given words = what_read images given words
shape_read images shape.Values given words = values_read images given words
shape_read images shape.GoalIf given words = goal_read images given words
shape_read images other given words =
    first_word (word_read images other given) (fault_of other) words

abbrev pub all_read : Images → List Shape → Arguments → Words → First Arguments
all_read images [] given words = Ok (given, words)
all_read images (shape ∷ shapes) given words =
    then_with (shape_read images shape given words) (all_read images shapes)

-- a command of texts of a scope: its name, and its arguments
unfoldable pub command_first : Scope → Images → Words → First Command
command_first scope images words =
    then_with (first_word (verb_named scope) BadCommand words)
    (λ verb rest. then_with (all_read images (shapes_in scope verb) NOTHING rest)
    (λ given end. Ok (record { verb = verb; given = given }, end)))

-- and no word behind it
abbrev pub whole : {A : Type 0} → A → Words → Result A DebugError
whole value [] = Ok value
whole value (word ∷ rest) = Err BadCommand

-- The command that a line is, or its first fault. With images, those of its head, the line is one
-- of a transcript, else of a session.
unfoldable pub command_in : Option Images → List ℕ → Result Command DebugError
command_in None line = then_with (command_first Sessions [] (words_of line)) whole
command_in (Some images) line = then_with (command_first Transcripts images (words_of line)) whole
