-- The names of the nodes that are shown differ, and so do those of a node's signals.
use Rattle.std.proofs.Common.{◌≡◌, ◌∙◌, ◌<◌, ◌≤◌, ℕ, zero, suc, ◌+◌, ◌/◌, ◌%◌, Bool, true, false, List, [], ◌∷◌, ◌++◌, Option, Some, None, ap, arith, codes, refl, sym}
use Rattle.std.specs.Prelude.{◌==◌, if◌then◌else◌, is_some}
use Rattle.std.specs.List.{AllByRecursion, enumerate_from, flat_map, range_with_len, slice_get, slice_index}
use Rattle.std.specs.Str.{bytes_eq}
use Rattle.std.proofs.lemmas.Bool.{false≢true}
use Rattle.ga_place.specs.Cell.{name_at}
use Rattle.ga_place.specs.Node.{is_among, node_text}
use Rattle.ga_place.specs.Side.{neighbour_of}
use Rattle.ga_place.specs.declared.side.Side.{Side}
use Rattle.ga_place.specs.declared.side.Side.TheVariants.{Right, Down, Left, Up}
use Rattle.ga_wave.specs.declared.signal.Signal.{Signal}
use Rattle.ga_wave.specs.declared.signal.Signal.TheVariants as signal
use Rattle.ga_wave.specs.Header.{port_name, signal_name}
use Rattle.ga_wave.specs.Signal.{is_signal}
use Rattle.ga_wave.specs.Wave.{if_shown, shown_names}

-- ---- signals

-- the side whose name begins with this character
abbrev side_from : ℕ → Side
side_from first =
    if first == 114 then Right else if first == 100 then Down else if first == 108 then Left else Up

-- the signal of a name
abbrev signal_of : List ℕ → Signal
signal_of name =
    if bytes_eq name (codes "did") then signal.Did
    else if bytes_eq name (codes "at") then signal.At
    else if bytes_eq name (codes "op") then signal.Op
    else if bytes_eq name (codes "busy") then signal.Busy
    else if bytes_eq name (codes "p") then signal.P
    else if bytes_eq name (codes "t") then signal.T
    else if bytes_eq name (codes "s") then signal.S
    else if bytes_eq name (codes "r") then signal.R
    else if bytes_eq name (codes "a") then signal.A
    else if bytes_eq name (codes "b") then signal.B
    else if bytes_eq name (codes "io") then signal.Io
    else signal.Port (side_from (slice_index name 0))

port_back : (side : Side) (reader : Option ℕ) → is_some reader ≡ true
    → signal_of (port_name side reader) ≡ signal.Port side
port_back side None there = absurd (false≢true there)
port_back Right (Some reader) there = refl
port_back Down (Some reader) there = refl
port_back Left (Some reader) there = refl
port_back Up (Some reader) there = refl

signal_back : (node : ℕ) (one : Signal) → is_signal node one ≡ true
    → signal_of (signal_name node one) ≡ one
signal_back node (signal.Port side) has = port_back side (neighbour_of node side) has
signal_back node signal.Did has = refl
signal_back node signal.At has = refl
signal_back node signal.Op has = refl
signal_back node signal.Busy has = refl
signal_back node signal.P has = refl
signal_back node signal.T has = refl
signal_back node signal.S has = refl
signal_back node signal.R has = refl
signal_back node signal.A has = refl
signal_back node signal.B has = refl
signal_back node signal.Io has = refl

-- signals of a node with the same name are the same
pub same_signal : (node : ℕ) (one other : Signal) → is_signal node one ≡ true
    → is_signal node other ≡ true → signal_name node one ≡ signal_name node other → one ≡ other
same_signal node one other has has' same =
    sym (signal_back node one has) ∙ ap signal_of same ∙ signal_back node other has'

-- ---- nodes

-- nodes with the same text are the same
pub same_node : (one other : ℕ) → node_text one ≡ node_text other → one ≡ other
same_node one other same =
    let hundreds : 48 + one / 100 ≡ 48 + other / 100 = cc in
    let tens : 48 + one / 10 % 10 ≡ 48 + other / 10 % 10 = cc in
    let ones : 48 + one % 10 ≡ 48 + other % 10 = cc in
    omega arith

-- names of nodes from an index on
abbrev IsFrom : ℕ → ℕ → Type 0
IsFrom index name = name_at index ≤ name

weaker : (index : ℕ) (names : List ℕ) → AllByRecursion (IsFrom (index + 1)) names
    → AllByRecursion (IsFrom index) names
weaker index [] all = tt
weaker index (name ∷ names) all =
    let more : name_at (index + 1) ≤ name = all.0 in (omega arith, weaker index names all.1)

-- the nodes that are shown of some indices
abbrev shown_from : List ℕ → ℕ → ℕ → List ℕ
shown_from nodes index count =
    flat_map (λ at. if_shown nodes (name_at at)) (range_with_len index count)

are_from : (nodes : List ℕ) (index count : ℕ)
    → AllByRecursion (IsFrom index) (shown_from nodes index count)
are_from nodes index zero = tt
are_from nodes index (suc count) =
    by (is_among (name_at index) nodes)
    (weaker index (shown_from nodes (index + 1) count) (are_from nodes (index + 1) count))
  where
    by : (shown : Bool)
        → AllByRecursion (IsFrom index) (shown_from nodes (index + 1) count)
        → AllByRecursion (IsFrom index)
        ((if shown then name_at index ∷ [] else []) ++ shown_from nodes (index + 1) count)
    by true rest = (omega arith, rest)
    by false rest = rest

-- a node of this name has this number
abbrev pub IsNumbered : ℕ → ℕ → ℕ × ℕ → Type 0
IsNumbered number name node = node.1 ≡ name → node.0 ≡ number

-- names behind one
behind : (number name from index : ℕ) (names : List ℕ) → name < name_at index
    → AllByRecursion (IsFrom index) names
    → AllByRecursion (IsNumbered number name) (enumerate_from from names)
behind number name from index [] less all = tt
behind number name from index (first ∷ names) less all =
    let more : name_at index ≤ first = all.0 in
    (λ same. absurd (omega arith), behind number name (from + 1) index names less all.1)

at_least : (index place name : ℕ) (names : List ℕ) → AllByRecursion (IsFrom index) names
    → slice_get names place ≡ Some name → name_at index ≤ name
at_least index place name [] all at = absurd cc
at_least index zero name (first ∷ names) all at =
    let same : first ≡ name = cc in
    let more : name_at index ≤ first = all.0 in omega arith
at_least index (suc place) name (first ∷ names) all at = at_least index place name names all.1 at

numbered_from : (nodes : List ℕ) (number name from place index count : ℕ) → from + place ≡ number
    → slice_get (shown_from nodes index count) place ≡ Some name
    → AllByRecursion (IsNumbered number name) (enumerate_from from (shown_from nodes index count))
numbered_from nodes number name from place index zero sum at = tt
numbered_from nodes number name from place index (suc count) sum at =
    by (is_among (name_at index) nodes) place sum at
    (λ n p s e. numbered_from nodes number name n p (index + 1) count s e)
  where
    by : (shown : Bool) (place : ℕ) → from + place ≡ number
        → slice_get ((if shown then name_at index ∷ [] else [])
        ++ shown_from nodes (index + 1) count) place ≡ Some name
        → ((n p : ℕ) → n + p ≡ number
        → slice_get (shown_from nodes (index + 1) count) p ≡ Some name
        → AllByRecursion (IsNumbered number name)
        (enumerate_from n (shown_from nodes (index + 1) count)))
        → AllByRecursion (IsNumbered number name) (enumerate_from from
        ((if shown then name_at index ∷ [] else []) ++ shown_from nodes (index + 1) count))
    by false place sum at more = more from place sum at
    by true zero sum at more =
        let same : name_at index ≡ name = cc in (
          λ e. omega arith,
          behind number name (from + 1) (index + 1)
              (shown_from nodes (index + 1) count) (omega arith) (are_from nodes (index + 1) count),
        )
    by true (suc place) sum at more =
        let least = at_least (index + 1) place name (shown_from nodes (index + 1) count)
        (are_from nodes (index + 1) count) at in
        (λ e. absurd (omega arith), more (from + 1) place (omega arith) at)

-- of the nodes that are shown one of a name has one number
pub one_number : (nodes : List ℕ) (number name : ℕ)
    → slice_get (shown_names nodes) number ≡ Some name
    → AllByRecursion (IsNumbered number name) (enumerate_from 0 (shown_names nodes))
unfolding shown_names
one_number nodes number name at =
    numbered_from nodes number name 0 number 0 144 (omega arith) at
