-- The path of a run: the steps that its last step waited for, one behind the other.
use Rattle.std.specs.Prelude.{ℕ, zero, suc, ◌-◌, ◌*◌, ◌==◌, List, [], ◌∷◌, Option, Some, None, get_or, map, min, reverse, if◌then◌else◌}
use Rattle.std.specs.List.{range_with_len}
use Rattle.ga_place.specs.Cell.{index_of}
use Rattle.ga_chip.specs.Chip.{Chip}
use Rattle.ga_observe.specs.Seen.{steps_seen, turns_numbered}
use Rattle.ga_observe.specs.declared.step.Step.{Step}
use Rattle.ga_profile.specs.declared.node_turns.NodeTurns.{NodeTurns}
use Rattle.ga_profile.specs.declared.window.Window.{Window}
use Rattle.ga_profile.specs.Marks.{is_later, is_marked, mark_before}
use Rattle.ga_profile.specs.NodeTurns.{NO_TURNS, more}
use Rattle.ga_profile.specs.Profile.{watched}

-- The steps of a path, the last one first, each with how many turns of the window are its own:
-- those behind the turn of the step before it on the path, up to its own turn.
abbrev pub Path : Type 0
Path = List (Step × ℕ)

-- the turn of the last step
abbrev pub last_turn : Path → Option ℕ
last_turn [] = None
last_turn (end ∷ path) = Some end.0.turn

-- how many turns from `from` on lie behind the one of the last step, up to a turn
abbrev pub turns_up_to : ℕ → Option ℕ → ℕ → ℕ
turns_up_to from None turn = more turn 1 - from
turns_up_to from (Some last) turn = min (more turn 1 - from) (turn - last)

abbrev pub longer : ℕ → Path → Step → Path
longer from path step = (step, turns_up_to from (last_turn path) step.turn) ∷ path

-- The path to the last step with a mark, in a window from a turn on, by the steps of a run, the
-- last one first. From a step that waited for another node it goes back to the step there that
-- ended the wait, and from all others to their own node's step before.
abbrev pub path_to : ℕ → ℕ → List Step → Path
path_to from mark [] = []
path_to from mark (step ∷ earlier) =
    let before = mark_before (λ other. last_turn (path_to from other earlier)) step in
    if is_marked mark step then longer from (path_to from before earlier) step
    else path_to from mark earlier

-- how many turns the steps of one kind have on a path
abbrev pub turns_of : (Step → ℕ) → ℕ → Path → ℕ
turns_of kind_of kind [] = 0
turns_of kind_of kind (end ∷ path) =
    if kind_of end.0 == kind then more (turns_of kind_of kind path) end.1
    else turns_of kind_of kind path

-- ---- the path of a window

-- the index of the node that made the last step that isn't a spin
abbrev pub later_of : List NodeTurns → ℕ → ℕ → ℕ
later_of nodes latest index =
    if is_later (get_or nodes latest NO_TURNS).last (get_or nodes index NO_TURNS).last
    then latest else index

abbrev pub last_node : List NodeTurns → ℕ → ℕ
last_node nodes zero = 0
last_node nodes (suc index) = later_of nodes (last_node nodes index) index

-- The path to the last step of a window.
abbrev pub path_in : Window → Chip → Path
path_in window chip =
    path_to window.first (last_node (watched window.first window.end chip) 144 * 9)
    (reverse (steps_seen chip (turns_numbered window.end)))

-- the kind of a step is the index of its node
abbrev pub node_index : Step → ℕ
node_index step = index_of step.node

-- How many turns each node has on the path.
unfoldable pub path_turns : Window → Chip → List ℕ
path_turns window chip =
    map (λ index. turns_of node_index index (path_in window chip)) (range_with_len 0 144)
