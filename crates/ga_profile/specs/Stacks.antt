-- The nodes with the fullest stacks.
use Rattle.std.specs.Prelude.{ℕ, ◌-◌, ◌*◌, ◌^◌, ◌==◌, List, [], ◌∷◌, ◌++◌, codes, get_or, length, map, max, min, Option, Some, None, if◌then◌else◌}
use Rattle.std.specs.List.{concat, flat_map, range_with_len}
use Rattle.ga_place.specs.Cell.{name_at}
use Rattle.ga_place.specs.Node.{node_text}
use Rattle.ga_asm.specs.Image.{ImageView}
use Rattle.ga_trace.specs.Depth.{BOTH_EMPTY, DATA_ROOM, RETURN_ROOM, passed_text}
use Rattle.ga_trace.specs.declared.depth.StackDepths.{StackDepths}
use Rattle.ga_profile.specs.declared.node_turns.NodeTurns.{NodeTurns}
use Rattle.ga_profile.specs.NodeTurns.{NO_TURNS}
use Rattle.ga_profile.specs.Rank.{ranked}
use Rattle.ga_profile.specs.Share.{number_cell}

-- How full the fuller stack of a node was, in parts of a stack of 10 * 9 words: most / room, times
-- both rooms. The number stays at the largest one of 64 bits.
abbrev pub fullness : StackDepths → ℕ
fullness depths =
    min (max (depths.data_stack.most * RETURN_ROOM) (depths.return_stack.most * DATA_ROOM))
    (2 ^ 64 - 1)

-- the stacks of a node that didn't begin don't count
abbrev pub fullness_if : Option ℕ → StackDepths → ℕ
fullness_if (Some turn) depths = fullness depths
fullness_if None depths = 0

abbrev pub fullness_at : List NodeTurns → List StackDepths → ℕ → ℕ
fullness_at nodes depths index =
    fullness_if (get_or nodes index NO_TURNS).began (get_or depths index BOTH_EMPTY)

-- and of all nodes, in order of name
unfoldable pub all_fullness : List NodeTurns → List StackDepths → List ℕ
all_fullness nodes depths =
    map (λ index. fullness_at nodes depths index) (range_with_len 0 144)

-- ---- as text

-- a stack with a name that had no room for a word, and where the first such push is
abbrev pub passed_part : List (ℕ × ImageView) → ℕ → List ℕ → Option ℕ → List ℕ
passed_part images name stack None = []
passed_part images name stack (Some address) =
    stack ++ passed_text images name (Some address)

-- the most words of data and for returns, and which stacks had no room
unfoldable pub stack_row : List (ℕ × ImageView) → ℕ → StackDepths → List ℕ
stack_row images name depths =
    concat (node_text name ∷ number_cell 9 depths.data_stack.most
    ∷ number_cell 9 depths.return_stack.most
    ∷ passed_part images name (codes "  data") depths.data_stack.passed
    ∷ passed_part images name (codes "  return") depths.return_stack.passed ∷ codes "\n" ∷ [])

-- the row of a node, by how full its stacks were: it has none if both were empty
abbrev pub stack_row_if : List (ℕ × ImageView) → ℕ → ℕ → StackDepths → List ℕ
stack_row_if images full name depths =
    if full == 0 then [] else stack_row images name depths

-- the row of a rank
abbrev pub stack_row_at : List (ℕ × ImageView) → List ℕ → List StackDepths → ℕ → List ℕ
stack_row_at images full depths rank =
    let index = ranked full rank in
    stack_row_if images (get_or full index 0) (name_at index) (get_or depths index BOTH_EMPTY)

-- the rows of the ten nodes with the fullest stacks, the fullest first
unfoldable pub stack_rows : List (ℕ × ImageView) → List NodeTurns → List StackDepths → List ℕ
stack_rows images nodes depths =
    flat_map (stack_row_at images (all_fullness nodes depths) depths) (range_with_len 0 10)

-- rows behind the heads of their columns, if there are any
abbrev pub headed : List ℕ → List ℕ
headed rows =
    if length rows == 0 then [] else codes "node data/10 return/9  the fullest stacks\n" ++ rows

-- The nodes with the fullest stacks.
abbrev pub stacks_text : List (ℕ × ImageView) → List NodeTurns → List StackDepths → List ℕ
stacks_text images nodes depths = headed (stack_rows images nodes depths)
