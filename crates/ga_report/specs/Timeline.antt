-- What each node does in the columns of a window.
use Rattle.std.specs.Prelude.{ℕ, ◌+◌, ◌-◌, ◌*◌, List, get_or, map, min}
use Rattle.std.specs.List.{flat_map, range_with_len}
use Rattle.ga_chip.specs.Chip.{Chip}
use Rattle.ga_profile.specs.declared.node_turns.NodeTurns.{NodeTurns}
use Rattle.ga_profile.specs.declared.node_turns.TurnCounts.{TurnCounts}
use Rattle.ga_profile.specs.declared.window.Window.{Window}
use Rattle.ga_profile.specs.NodeTurns.{NO_TURNS}
use Rattle.ga_profile.specs.Profile.{nodes_in}
use Rattle.ga_report.specs.declared.kind.Kind.{Kind}
use Rattle.ga_report.specs.declared.kind.Kind.TheVariants.{Idle}
use Rattle.ga_report.specs.Columns.{bound, columns_of}
use Rattle.ga_report.specs.Most.{between, most_of}

-- what each node does in the turns before one, from the first one on
abbrev pub up_to : ℕ → Chip → List NodeTurns
up_to turn chip = nodes_in (record { first = 0; end = turn }) chip

-- what a node does in most of some turns, by what it did before the first one and up to the last
abbrev pub most_at : List NodeTurns → List NodeTurns → ℕ → ℕ → Kind
most_at before after turns index =
    most_of (between (get_or before index NO_TURNS).counts (get_or after index NO_TURNS).counts)
    turns

abbrev pub most_by : List NodeTurns → List NodeTurns → ℕ → List Kind
most_by before after turns = map (most_at before after turns) (range_with_len 0 144)

-- what each node does in most turns of a column
unfoldable pub column_in : Window → Chip → ℕ → List Kind
column_in window chip column =
    let begin = bound window column in
    let end = bound window (column + 1) in
    most_by (up_to begin chip) (up_to end chip) (end - begin)

-- and in all columns, one behind the other
unfoldable pub kinds_in : Window → Chip → List Kind
kinds_in window chip = flat_map (column_in window chip) (range_with_len 0 (columns_of window))

-- what a node does in each column, by its index
unfoldable pub row_of : ℕ → List Kind → ℕ → List Kind
row_of columns kinds index =
    map (λ column. get_or kinds (column * 144 + index) Idle) (range_with_len 0 columns)

-- in how many turns each node does what, by what it did before the first one and up to the last
abbrev pub counts_at : List NodeTurns → List NodeTurns → ℕ → TurnCounts
counts_at before after index =
    between (get_or before index NO_TURNS).counts (get_or after index NO_TURNS).counts

abbrev pub counts_by : List NodeTurns → List NodeTurns → List TurnCounts
counts_by before after = map (counts_at before after) (range_with_len 0 144)

-- in how many turns of a window
unfoldable pub counts_in : Window → Chip → List TurnCounts
counts_in window chip =
    counts_by (up_to (min window.first window.end) chip) (up_to window.end chip)
