-- The row of a command.
use Rattle.std.specs.Prelude.{ℕ, Bool, true, false, List}
use Rattle.ga_debug.specs.declared.row.Scope.{Scope}
use Rattle.ga_debug.specs.declared.row.Scope.TheVariants.{Replays, Sessions, Transcripts}
use Rattle.ga_debug.specs.declared.row.Shape.{Shape}
use Rattle.ga_debug.specs.declared.row.States.{States}

-- A command: its name, the words that follow it, which texts have it, and what a replay states of
-- it.
pub record Row : Type 0 where
  pub name : List ℕ
  pub shapes : List Shape
  pub scope : Scope
  pub states : States

abbrev pub row : List ℕ → List Shape → Scope → States → Row
row name shapes scope states =
    record { name = name; shapes = shapes; scope = scope; states = states }

-- texts of a scope have the commands of the scopes before it, too
abbrev pub is_seen_by : Scope → Scope → Bool
is_seen_by scope Replays = true
is_seen_by Replays Sessions = false
is_seen_by scope Sessions = true
is_seen_by Transcripts Transcripts = true
is_seen_by scope Transcripts = false
