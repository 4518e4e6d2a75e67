-- The 144 nodes, in 8 rows by 18 columns. A node is seen as its name, the number row * 100 +
-- column.
use Rattle.std.specs.Prelude.{◌≡◌, ℕ, ◌+◌, ◌/◌, ◌%◌, ◌<◌, nat_lt, ◌==◌, Bool, ◌||◌, ◌&&◌, List, [], ◌∷◌, length, Option, Some, None, if◌then◌else◌, ◌⊎◌}
use Rattle.std.specs.Char.{is_digit}
use Rattle.std.specs.List.{list_all, list_any}
use Rattle.std.specs.Str.Parse.{digits_value}

-- the row of a node, counted from the south: the hundreds of its name
abbrev pub row_of : ℕ → ℕ
row_of name = name / 100

-- the column of a node, counted from the west: the last two digits of its name
abbrev pub column_of : ℕ → ℕ
column_of name = name % 100

-- a node has this name: its row is from 0 to 7 and its column from 0 to 17
abbrev pub IsNodeName : ℕ → Type 0
IsNodeName name = (row_of name < 8) × (column_of name < 18)

-- whether one has it
abbrev pub is_node_name : ℕ → Bool
is_node_name name = nat_lt (row_of name) 8 && nat_lt (column_of name) 18

-- the node that a text names: three decimal digits, which are its name
abbrev pub node_named : List ℕ → Option ℕ
node_named text =
    if (length text == 3) && list_all (λ c. is_digit c 10) text
    && is_node_name (digits_value 10 text) then Some (digits_value 10 text) else None

-- whether a node is in the first or the last row or column
abbrev pub is_edge : ℕ → Bool
is_edge name =
    (row_of name == 0) || ((row_of name == 7) || ((column_of name == 0) || (column_of name == 17)))

-- the text of a node: the three decimal digits of its name
abbrev pub node_text : ℕ → List ℕ
node_text name = (48 + name / 100) ∷ (48 + name / 10 % 10) ∷ (48 + name % 10) ∷ []

-- a name is among names
abbrev pub is_among : ℕ → List ℕ → Bool
is_among name names = list_any (λ other. other == name) names
