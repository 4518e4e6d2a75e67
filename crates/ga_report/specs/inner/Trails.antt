-- What an observer keeps of the paths of a run.
use Rattle.std.specs.Prelude.{◌≡◌, ℕ, ◌<◌, List, Option, Some, None, get_or, length, replicate, reverse, set}
use Rattle.ga_observe.specs.declared.step.Step.{Step}
use Rattle.ga_profile.specs.declared.window.Window.{Window}
use Rattle.ga_profile.specs.Path.{Path, last_turn, node_index, path_to}
use Rattle.ga_report.specs.declared.trail.Trail.{Trail}
use Rattle.ga_report.specs.Holder.{column_at, last_in}

abbrev pub NO_TRAIL : Trail
NO_TRAIL = record { last = None; nodes = replicate 600 None }

-- the nodes with another one in a column
abbrev pub with_node : List (Option ℕ) → Option ℕ → ℕ → List (Option ℕ)
with_node nodes None index = nodes
with_node nodes (Some column) index = set nodes column (Some index)

-- a trail with one more step
abbrev pub lengthened : Window → Trail → Step → Trail
lengthened part trail step = record {
  last = Some step.turn;
  nodes = with_node trail.nodes (column_at part step.turn) (node_index step);
}

-- A trail has the turn of the last step of a path, and the node of its last step in each column.
pub record IsTrailOf (part : Window) (path : Path) (trail : Trail) : Type 0 where
  pub last : trail.last ≡ last_turn path
  pub all : length trail.nodes ≡ 600
  pub nodes : (column : ℕ) → column < 600
      → get_or trail.nodes column None ≡ last_in part column path

-- The trails are those of the paths to the last steps with each mark.
pub record KeptTrails (from : ℕ) (part : Window) (trails : List Trail) (steps : List Step)
    : Type 0 where
  pub each : (mark : ℕ) → mark < 1296
      → IsTrailOf part (path_to from mark (reverse steps)) (get_or trails mark NO_TRAIL)
