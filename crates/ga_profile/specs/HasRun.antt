-- What an observer keeps of a run.
use Rattle.std.specs.Prelude.{◌≡◌, ℕ, ◌<◌, false, List, get_or}
use Rattle.ga_place.specs.Cell.{name_at}
use Rattle.ga_chip.specs.Chip.{Chip}
use Rattle.ga_observe.specs.declared.step.Step.{Step}
use Rattle.ga_trace.specs.Traced.{behind}
use Rattle.ga_profile.specs.declared.node_turns.NodeTurns.{NodeTurns}
use Rattle.ga_profile.specs.declared.turn_watch.TurnWatch.{TurnWatch}
use Rattle.ga_profile.specs.NodeTurns.{NO_TURNS, turns_in, turns_on}

-- The chip began as `start` and has made this many turns. These are the turns of the nodes, in
-- order of name, in a window from a turn on.
pub record HasRun (from : ℕ) (start : Chip) (turns : ℕ) (now : Chip) (watch : TurnWatch)
    : Type 0 where
  pub begun : watch.from ≡ from
  pub chip : now ≡ behind start turns
  pub each : (index : ℕ) → index < 144
      → get_or watch.nodes.items index NO_TURNS ≡ turns_in from (name_at index) turns start

-- the turns of a node behind some more steps of a turn
abbrev pub node_after : TurnWatch → List Step → ℕ → NodeTurns
node_after watch steps index =
    turns_on watch.from (name_at index) (get_or watch.spinning index false)
    (get_or watch.nodes.items index NO_TURNS) steps

-- A watch has seen some more steps of a turn.
pub record GoesOn (begun watch : TurnWatch) (steps : List Step) : Type 0 where
  pub from : watch.from ≡ begun.from
  pub spinning : watch.spinning ≡ begun.spinning
  pub spins : watch.spins ≡ begun.spins
  pub each : (index : ℕ) → index < 144
      → get_or watch.nodes.items index NO_TURNS ≡ node_after begun steps index
