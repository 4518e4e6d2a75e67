-- What each node of a chip did in the turns of a run.
use Rattle.std.specs.Prelude.{ℕ, List, get_or, map, Option, Some, None}
use Rattle.std.specs.List.{range_with_len}
use Rattle.ga_place.specs.Cell.{name_at}
use Rattle.ga_node.specs.Need.{need_of}
use Rattle.ga_node.specs.State.{State}
use Rattle.ga_node.specs.declared.need.Need.{Need}
use Rattle.ga_node.specs.declared.need.Need.TheVariants as need
use Rattle.ga_node.specs.declared.place.Place.{Place}
use Rattle.ga_chip.specs.Chip.{Chip, state_of}
use Rattle.ga_chip.specs.Run.{ran, turns_of}
use Rattle.ga_trace.specs.Rest.{ran_from}
use Rattle.ga_profile.specs.declared.node_turns.NodeTurns.{NodeTurns}
use Rattle.ga_profile.specs.declared.node_turns.Wait.{Wait}
use Rattle.ga_profile.specs.declared.node_turns.Wait.TheVariants as wait
use Rattle.ga_profile.specs.declared.window.Window.{Window}
use Rattle.ga_profile.specs.declared.window.WindowStart.{WindowStart}
use Rattle.ga_profile.specs.Bottleneck.{node_on_path}
use Rattle.ga_profile.specs.Faster.{goals_of, shorter_window}
use Rattle.ga_profile.specs.NodeTurns.{NO_TURNS, turns_between, turns_in, wait_to_take, waited}
use Rattle.ga_profile.specs.Window.{window_of}

-- in how many turns a chip comes to rest, at most `most`
abbrev pub turns_to_rest : ℕ → Chip → ℕ
turns_to_rest most chip = (ran_from most 0 0 0 chip).0.turns

-- what each node does from a turn on in a number of turns of a chip, up to its last step
unfoldable pub watched : ℕ → ℕ → Chip → List NodeTurns
watched from count chip =
    map (λ index. turns_in from (name_at index) count chip) (range_with_len 0 144)

-- the window of a run until rest
abbrev pub window_in : WindowStart → ℕ → Chip → Window
window_in start most chip =
    window_of start (watched 0 (turns_to_rest most chip) chip) (turns_to_rest most chip)

-- What each node has to do in the run until rest.
unfoldable pub goals_to_rest : ℕ → Chip → List ℕ
goals_to_rest most chip =
    goals_of (ran chip (turns_of (turns_to_rest most chip)))
    (watched 0 (turns_to_rest most chip) chip)

-- how many turns a window of the run would have if the node with the most turns on the path were
-- twice as fast in it; none, unless they are fewer
abbrev pub shorter_in : Window → ℕ → Chip → List ℕ → Option ℕ
shorter_in window most chip path =
    shorter_window window (node_on_path path) (goals_to_rest most chip) chip

-- ---- behind the last step of a node

-- what a node waits for that has started
abbrev pub wait_for : Place → Need → Wait
wait_for place (need.Take sides) = wait_to_take place
wait_for place (need.Post side word) = wait.Reader
wait_for place (need.Check side) = wait.Reader
wait_for place (need.Stopped stop) = wait.Never
wait_for place need.Own = wait.Work
wait_for place need.Input = wait.Work

-- before it began it was idle
abbrev pub wait_at_end : Option ℕ → Place → Need → Wait
wait_at_end (Some turn) place needs = wait_for place needs
wait_at_end None place needs = wait.Work

-- the turns of a node with those behind its last step, by the state in which it ends
abbrev pub with_end : Window → NodeTurns → Option State → NodeTurns
with_end window turns None = turns
with_end window turns (Some state) =
    record turns {
      counts = waited turns.counts (wait_at_end turns.began state.place (need_of state))
          (turns_between window.first turns.last window.end);
    }

-- and those of all nodes
unfoldable pub ended : Window → List NodeTurns → Chip → List NodeTurns
ended window nodes chip =
    map (λ index. with_end window (get_or nodes index NO_TURNS) (state_of chip (name_at index)))
    (range_with_len 0 144)

-- the chip at the end of a window
abbrev pub chip_at_end : Window → Chip → Chip
chip_at_end window chip = ran chip (turns_of window.end)

-- What each node does in a window of the run of a chip.
abbrev pub nodes_in : Window → Chip → List NodeTurns
nodes_in window chip =
    ended window (watched window.first window.end chip) (chip_at_end window chip)
