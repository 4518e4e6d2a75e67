-- Worked values: numbers, ports, and whole texts, each worked out by hand.
use Rattle.std.proofs.Common.{◌≡◌, ℕ, true, false, List, [], ◌∷◌, Ok, Err, Result, Option, Some, None, refl}
use Rattle.std.specs.Prelude.{codes}
use Rattle.std.specs.List.{list_all}
use Rattle.ga_word.specs.Hex.{hex_digits}
use Rattle.ga_pack.specs.Model.Text.{lexemes}
use Rattle.ga_pack.specs.Model.Token.{is_reserved, meaning_of}
use Rattle.ga_place.specs.Side.{North}
use Rattle.ga_expand.specs.declared.error.ExpandErrorKind.{ExpandErrorKind}
use Rattle.ga_expand.specs.declared.error.ExpandErrorKind.TheVariants.{BadNode, BadToken, DuplicateName, MixedSides, NoNeighbour, NumberRange, OpenDefinition, ReservedName, TooLarge, UnknownBody}
use Rattle.ga_expand.specs.Arithmetic.{made_by}
use Rattle.ga_expand.specs.Expression.{behind_sign, inside, left_of, parted, right_of, value_of}
use Rattle.ga_expand.specs.Error.{Fault}
use Rattle.ga_expand.specs.Expanding.{Piece, expansion_from, pieces_of, step_at, word_of}
use Rattle.ga_expand.specs.Bodies.{Part, SharedBody, Unfolding, first, name_error, read_at, unfolded_from, use_of}
use Rattle.ga_expand.specs.NodeLists.{Spreading, list_ended, spread_from, start_spread}
use Rattle.ga_expand.specs.Texts.{expansion}
use Rattle.ga_expand.specs.Literal.{literal_of}
use Rattle.ga_expand.specs.Places.{port_named, port_towards}
use Rattle.ga_expand.specs.inner.Making.{has_list, is_apart}

-- ---- numbers

abbrev Literal : Type 0
Literal = Result (Option ℕ) ExpandErrorKind

below_zero : ◌≡◌ {A = Literal} (literal_of (codes "-5")) (Ok (Some 0x3FFFB))
unfolding literal_of
below_zero = refl

lowest : ◌≡◌ {A = Literal} (literal_of (codes "-131072")) (Ok (Some 0x20000))
unfolding literal_of
lowest = refl

too_low : ◌≡◌ {A = Literal} (literal_of (codes "-131073")) (Err NumberRange)
unfolding literal_of
too_low = refl

binary : ◌≡◌ {A = Literal} (literal_of (codes "%1010")) (Ok (Some 10))
unfolding literal_of
binary = refl

character : ◌≡◌ {A = Literal} (literal_of (codes "'A'")) (Ok (Some 65))
unfolding literal_of
character = refl

two_sides : ◌≡◌ {A = Literal} (literal_of (codes "right|left")) (Ok (Some 0x1F5))
unfolding literal_of
two_sides = refl

all_sides : ◌≡◌ {A = Literal} (literal_of (codes "up|left|down|right")) (Ok (Some 0x1A5))
unfolding literal_of
all_sides = refl

no_side : ◌≡◌ {A = Literal} (literal_of (codes "right|io")) (Ok None)
unfolding literal_of
no_side = refl

-- ---- ports: east is right in even columns, north is down in even rows

abbrev Port : Type 0
Port = Result ℕ ExpandErrorKind

east_even : ◌≡◌ {A = Port} (port_named 708 (codes "709")) (Ok 0x1D5)
east_even = refl

east_odd : ◌≡◌ {A = Port} (port_named 709 (codes "710")) (Ok 0x175)
east_odd = refl

south_odd : ◌≡◌ {A = Port} (port_named 708 (codes "608")) (Ok 0x115)
south_odd = refl

south_even : ◌≡◌ {A = Port} (port_named 608 (codes "508")) (Ok 0x145)
south_even = refl

too_far : ◌≡◌ {A = Port} (port_named 708 (codes "710")) (Err NoNeighbour)
too_far = refl

no_node : ◌≡◌ {A = Port} (port_named 708 (codes "right")) (Err BadNode)
no_node = refl

over_the_edge : ◌≡◌ {A = Port} (port_towards 708 North) (Err NoNeighbour)
over_the_edge = refl

-- ---- texts

abbrev Expansion : Type 0
Expansion = Result (List Piece) Fault

at : List ℕ → ℕ → ℕ → Piece
at text line column = record { text = text; place = record { line = line; column = column } }

failed : ExpandErrorKind → ℕ → ℕ → Expansion
failed kind line column =
    Err (record { kind = kind; place = record { line = line; column = column } })

constant_and_neighbour : ◌≡◌ {A = Expansion} (expansion (codes "const A 'A' node 708 A to 709 b!"))
    (Ok (at (codes "node") 1 13 ∷ at (codes "708") 1 18 ∷ at (codes "$00041") 1 22
    ∷ at (codes "$001D5") 1 24 ∷ at (codes "b!") 1 31 ∷ []))
unfolding expansion unfolded_from read_at spread_from expansion_from pieces_of lexemes step_at
    word_of literal_of value_of parted inside behind_sign meaning_of is_reserved hex_digits at
constant_and_neighbour = refl

-- a constant is the address of ports if its value is written as one
constant_of_a_side : ◌≡◌ {A = Expansion}
    (expansion (codes "const P (right) const Q P const C Q|down node 709 C"))
    (Ok (at (codes "node") 1 42 ∷ at (codes "709") 1 47 ∷ at (codes "$00195") 1 51 ∷ []))
unfolding expansion unfolded_from read_at spread_from expansion_from pieces_of lexemes step_at
    word_of literal_of value_of parted inside behind_sign left_of right_of made_by meaning_of
    is_reserved hex_digits at
constant_of_a_side = refl

-- a constant keeps its sign, and stands for its word
negative_constant : ◌≡◌ {A = Expansion}
    (expansion (codes "const A -1 const B A+1 node 708 A B"))
    (Ok (at (codes "node") 1 24 ∷ at (codes "708") 1 29 ∷ at (codes "$3FFFF") 1 33
    ∷ at (codes "$00000") 1 35 ∷ []))
unfolding expansion unfolded_from read_at spread_from expansion_from pieces_of lexemes step_at
    word_of literal_of value_of parted inside behind_sign left_of right_of made_by meaning_of
    is_reserved hex_digits at
negative_constant = refl

constant_of_digits : ◌≡◌ {A = Expansion} (expansion (codes "const A $145 const C A|right"))
    (failed MixedSides 1 22)
unfolding expansion unfolded_from read_at spread_from expansion_from pieces_of lexemes step_at
    literal_of value_of parted inside behind_sign left_of right_of made_by is_reserved meaning_of
    failed
constant_of_digits = refl

-- behind an opcode that takes a destination, and behind `,`, `to` and `east` are names of labels
labels_stay : ◌≡◌ {A = Expansion} (expansion (codes "node 708 east: jump to , east"))
    (Ok (at (codes "node") 1 1 ∷ at (codes "708") 1 6 ∷ at (codes "east:") 1 10
    ∷ at (codes "jump") 1 16 ∷ at (codes "to") 1 21 ∷ at (codes ",") 1 24 ∷ at (codes "east") 1 26
    ∷ []))
unfolding expansion unfolded_from read_at spread_from expansion_from pieces_of lexemes step_at
    word_of literal_of meaning_of at
labels_stay = refl

open_definition : ◌≡◌ {A = Expansion} (expansion (codes "const A 1 const B"))
    (failed OpenDefinition 1 11)
unfolding expansion unfolded_from read_at spread_from expansion_from pieces_of lexemes step_at
    literal_of value_of parted inside behind_sign is_reserved meaning_of failed
open_definition = refl

reserved_name : ◌≡◌ {A = Expansion} (expansion (codes "const dup 1")) (failed ReservedName 1 7)
unfolding expansion unfolded_from read_at spread_from expansion_from pieces_of lexemes step_at
    is_reserved meaning_of failed
reserved_name = refl

duplicate_name : ◌≡◌ {A = Expansion} (expansion (codes "const A 1 const A 2"))
    (failed DuplicateName 1 17)
unfolding expansion unfolded_from read_at spread_from expansion_from pieces_of lexemes step_at
    literal_of value_of parted inside behind_sign is_reserved meaning_of failed
duplicate_name = refl

label_of_a_constant : ◌≡◌ {A = Expansion} (expansion (codes "const A 1 node 708 A: dup"))
    (failed DuplicateName 1 20)
unfolding expansion unfolded_from read_at spread_from expansion_from pieces_of lexemes step_at
    word_of literal_of value_of parted inside behind_sign is_reserved meaning_of failed
label_of_a_constant = refl

no_value : ◌≡◌ {A = Expansion} (expansion (codes "const A B")) (failed BadToken 1 9)
unfolding expansion unfolded_from read_at spread_from expansion_from pieces_of lexemes step_at
    literal_of value_of parted inside behind_sign is_reserved meaning_of failed
no_value = refl

no_neighbour : ◌≡◌ {A = Expansion} (expansion (codes "node 708 dup to 710"))
    (failed NoNeighbour 1 17)
unfolding expansion unfolded_from read_at spread_from expansion_from pieces_of lexemes step_at
    word_of literal_of meaning_of failed
no_neighbour = refl

-- ---- shared bodies

-- an argument has its own place, and another token that of the body
one_argument : ◌≡◌ {A = Expansion}
    (expansion (codes "body PUT X\nX b! end node 708 use PUT 5 dup"))
    (Ok (at (codes "node") 2 10 ∷ at (codes "708") 2 15 ∷ at (codes "5") 2 27 ∷ at (codes "b!") 2 3
    ∷ at (codes "dup") 2 29 ∷ []))
unfolding expansion unfolded_from read_at spread_from expansion_from pieces_of lexemes step_at
    word_of literal_of meaning_of is_reserved at
one_argument = refl

-- a body that uses another one, in which `to` is by the node of the `use`
two_uses : ◌≡◌ {A = Expansion} (expansion (codes
    "body STEP X\nto X a! end body TWICE X\nuse STEP X use STEP X end node 708 use TWICE 709"))
    (Ok (at (codes "node") 3 27 ∷ at (codes "708") 3 32 ∷ at (codes "$001D5") 2 1
    ∷ at (codes "a!") 2 6 ∷ at (codes "$001D5") 2 1 ∷ at (codes "a!") 2 6 ∷ []))
unfolding expansion unfolded_from read_at spread_from expansion_from pieces_of lexemes step_at
    word_of literal_of meaning_of is_reserved hex_digits at
two_uses = refl

-- the X of the body A is no parameter of B
own_parameters : ◌≡◌ {A = Expansion}
    (expansion (codes "body A\nX end body B X\nuse A X end node 708 use B 5"))
    (Ok (at (codes "node") 3 13 ∷ at (codes "708") 3 18 ∷ at (codes "X") 2 1 ∷ at (codes "5") 3 28
    ∷ []))
unfolding expansion unfolded_from read_at spread_from expansion_from pieces_of lexemes step_at
    word_of literal_of meaning_of is_reserved at
own_parameters = refl

use_is_a_label : ◌≡◌ {A = Expansion} (expansion (codes "node 708 use: jump use"))
    (Ok (at (codes "node") 1 1 ∷ at (codes "708") 1 6 ∷ at (codes "use:") 1 10
    ∷ at (codes "jump") 1 15 ∷ at (codes "use") 1 20 ∷ []))
unfolding expansion unfolded_from read_at spread_from expansion_from pieces_of lexemes step_at
    word_of literal_of meaning_of at
use_is_a_label = refl

no_body : ◌≡◌ {A = Expansion} (expansion (codes "node 708 use A")) (failed UnknownBody 1 14)
unfolding expansion unfolded_from read_at pieces_of lexemes meaning_of failed
no_body = refl

later_body : ◌≡◌ {A = Expansion} (expansion (codes "body A\nuse B end body B\nend"))
    (failed UnknownBody 2 5)
unfolding expansion unfolded_from read_at pieces_of lexemes meaning_of is_reserved failed
later_body = refl

open_body : ◌≡◌ {A = Expansion} (expansion (codes "body A\ndup")) (failed OpenDefinition 1 1)
unfolding expansion unfolded_from read_at pieces_of lexemes meaning_of is_reserved failed
open_body = refl

open_use : ◌≡◌ {A = Expansion} (expansion (codes "body A X\nX end node 708 use A"))
    (failed OpenDefinition 2 16)
unfolding expansion unfolded_from read_at pieces_of lexemes meaning_of is_reserved failed
open_use = refl

-- an argument is on the line of its `use`, and no word with which another part begins
argument_on_the_next_line : ◌≡◌ {A = Expansion}
    (expansion (codes "body A X\nX end node 708 use A\n5")) (failed OpenDefinition 2 16)
unfolding expansion unfolded_from read_at pieces_of lexemes meaning_of is_reserved failed
argument_on_the_next_line = refl

node_for_an_argument : ◌≡◌ {A = Expansion}
    (expansion (codes "body A X\nX end node 708 use A node 709 5")) (failed OpenDefinition 2 16)
unfolding expansion unfolded_from read_at pieces_of lexemes meaning_of is_reserved failed
node_for_an_argument = refl

-- `end` is no argument
cut_use : ◌≡◌ {A = Expansion} (expansion (codes "body A X\nX end body B\nuse A end"))
    (failed OpenDefinition 3 1)
unfolding expansion unfolded_from read_at pieces_of lexemes meaning_of is_reserved failed
cut_use = refl

name_of_a_constant : ◌≡◌ {A = Expansion} (expansion (codes "const A 1 body A\nend"))
    (failed DuplicateName 1 16)
unfolding expansion unfolded_from read_at pieces_of lexemes is_reserved failed
name_of_a_constant = refl

two_parameters : ◌≡◌ {A = Expansion} (expansion (codes "body A X X\nend"))
    (failed DuplicateName 1 10)
unfolding expansion unfolded_from read_at pieces_of lexemes is_reserved failed
two_parameters = refl

-- where as many are there as may be, a good name is one too many
one_too_many : name_error false true (codes "STEP") ≡ Some TooLarge
unfolding is_reserved
one_too_many = refl

taken_first : name_error true true (codes "STEP") ≡ Some DuplicateName
unfolding is_reserved
taken_first = refl

-- two tokens where one is left
two_tokens : SharedBody
two_tokens =
    let one : Part = record { piece = at (codes "dup") 1 1; parameter = None } in
    record { name = codes "A"; arity = 0; parts = one ∷ one ∷ [] }

too_many : ◌≡◌ {A = Result Unfolding Fault}
    (use_of (record first { left = 1 }) (record { line = 2; column = 1 })
    (record { line = 2; column = 5 }) (Some two_tokens))
    (Err (record { kind = TooLarge; place = record { line = 2; column = 5 } }))
unfolding two_tokens
too_many = refl

-- ---- lists of nodes

-- `to` is by the node of the copy
two_nodes : ◌≡◌ {A = Expansion} (expansion (codes "node 708,710 to 709 b!"))
    (Ok (at (codes "node") 1 1 ∷ at (codes "708") 1 6 ∷ at (codes "$001D5") 1 14
    ∷ at (codes "b!") 1 21 ∷ at (codes "node") 1 1 ∷ at (codes "710") 1 6
    ∷ at (codes "$00175") 1 14 ∷ at (codes "b!") 1 21 ∷ []))
unfolding expansion unfolded_from read_at spread_from expansion_from pieces_of lexemes step_at
    word_of literal_of meaning_of hex_digits at
two_nodes = refl

no_list : ◌≡◌ {A = Expansion} (expansion (codes "node 708,99 dup")) (failed BadNode 1 6)
unfolding expansion unfolded_from read_at spread_from pieces_of lexemes meaning_of failed
no_list = refl

-- four tokens where three are left
too_many_copies : ◌≡◌ {A = Result Spreading Fault}
    (list_ended (record start_spread { left = 3 }) (at (codes "node") 1 1)
    (at (codes "708,709") 1 6) [])
    (Err (record { kind = TooLarge; place = record { line = 1; column = 6 } }))
unfolding at
too_many_copies = refl

-- ---- texts without shared bodies, and without lists of nodes

constants_only : list_all is_apart (pieces_of (codes "const A 1 node 708 A")) ≡ true
unfolding pieces_of lexemes
constants_only = refl

one_body : list_all is_apart (pieces_of (codes "body A dup")) ≡ false
unfolding pieces_of lexemes
one_body = refl

one_list : has_list false (pieces_of (codes "node 708,709 dup")) ≡ true
unfolding pieces_of lexemes meaning_of
one_list = refl

-- a comma that isn't behind `node`
other_comma : has_list false (pieces_of (codes "node 708 jump again , again")) ≡ false
unfolding pieces_of lexemes meaning_of
other_comma = refl

-- ---- addresses of labels

-- the name is a label's, and not the constant's
address_of_a_label : ◌≡◌ {A = Expansion} (expansion (codes "const A 1 node 708 &A"))
    (Ok (at (codes "node") 1 11 ∷ at (codes "708") 1 16 ∷ at (codes "[") 1 20
    ∷ at (codes "@p") 1 20 ∷ at (codes ".") 1 20 ∷ at (codes ".") 1 20 ∷ at (codes ".") 1 20
    ∷ at (codes "]") 1 20 ∷ at (codes ",") 1 20 ∷ at (codes "A") 1 20 ∷ []))
unfolding expansion unfolded_from read_at spread_from expansion_from pieces_of lexemes step_at
    word_of literal_of value_of parted inside behind_sign meaning_of is_reserved at
address_of_a_label = refl

-- no name, and one that is reserved
no_address : ◌≡◌ {A = Expansion} (expansion (codes "node 708 & &dup"))
    (Ok (at (codes "node") 1 1 ∷ at (codes "708") 1 6 ∷ at (codes "&") 1 10
    ∷ at (codes "&dup") 1 12 ∷ []))
unfolding expansion unfolded_from read_at spread_from expansion_from pieces_of lexemes step_at
    word_of literal_of meaning_of is_reserved at
no_address = refl
