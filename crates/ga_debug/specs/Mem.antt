-- Words of memory.
use Rattle.std.specs.Prelude.{ℕ, ◌+◌, ◌-◌, ◌%◌, ◌==◌, List, [], ◌∷◌, ◌++◌, get_or, min, nat_lt, if◌then◌else◌}
use Rattle.std.specs.List.{flat_map, range_with_len}
use Rattle.ga_word.specs.Hex.{hex_digits}
use Rattle.ga_node.specs.State.{State}
use Rattle.ga_dump.specs.Memory.{memory_dump}

-- in front of the word at an index of a range: the address, at the head of a line of eight
abbrev pub line_front : ℕ → ℕ → List ℕ
line_front from index =
    if index % 8 == 0
    then (if nat_lt 0 index then 10 ∷ [] else []) ++ hex_digits 3 (from + index)
    else []

abbrev pub word_shown : List ℕ → ℕ → ℕ → List ℕ
word_shown ram from index =
    line_front from index ++ 32 ∷ hex_digits 5 (get_or ram (from + index) 0)

-- a number of words from an address on, but none behind the last one of memory
unfoldable pub range_shown : ℕ → ℕ → List ℕ → List ℕ
range_shown from count ram =
    flat_map (word_shown ram from) (range_with_len 0 (min count (64 - from)))

-- the same, and all of memory for the count 0
abbrev pub memory_shown : ℕ → ℕ → State → List ℕ
memory_shown from count state =
    if count == 0 then memory_dump state else range_shown from count state.ram
