-- A node with its stacks.
use Rattle.std.specs.Prelude.{ℕ, List, ◌++◌, codes}
use Rattle.ga_node.specs.State.{State}
use Rattle.ga_node.specs.Line.{line_of}
use Rattle.ga_dump.specs.Row.{row_of}

-- the node's line, and a line for each stack: its eight words, the first item first
unfoldable pub node_dump : State → List ℕ
node_dump state =
    line_of state ++ codes "ds" ++ row_of state.data_stack ++ codes "rs"
    ++ row_of state.return_stack
