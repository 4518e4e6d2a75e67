-- Marks of steps, by which another step finds the one that it waited for.
use Rattle.std.specs.Prelude.{ℕ, ◌+◌, ◌*◌, ◌==◌, Bool, true, false, ◌&&◌, ◌||◌, Option, Some, None, nat_lt, if◌then◌else◌}
use Rattle.std.specs.Option.{option_map, option_map_or}
use Rattle.ga_place.specs.Cell.{index_of}
use Rattle.ga_place.specs.Side.{neighbour_of}
use Rattle.ga_place.specs.declared.side.Side.{Side}
use Rattle.ga_place.specs.declared.side.Side.TheVariants.{Right, Down, Left, Up}
use Rattle.ga_observe.specs.declared.step.Deed.{Deed}
use Rattle.ga_observe.specs.declared.step.Deed.TheVariants.{Took, Posted, SawRead}
use Rattle.ga_observe.specs.declared.step.Step.{Step}
use Rattle.ga_profile.specs.NodeTurns.{turns_between}

-- A node has nine marks: the first is that of all its steps, the next four are those of its posts
-- at each side, and the last four those of its takes at each side.
abbrev pub side_number : Side → ℕ
side_number Right = 0
side_number Down = 1
side_number Left = 2
side_number Up = 3

abbrev pub step_mark : ℕ → ℕ
step_mark name = index_of name * 9

abbrev pub post_mark : Side → ℕ → ℕ
post_mark side name = index_of name * 9 + 1 + side_number side

abbrev pub take_mark : Side → ℕ → ℕ
take_mark side name = index_of name * 9 + 5 + side_number side

-- the other mark of a step, if it posts or takes a word
abbrev pub port_mark : ℕ → Deed → Option ℕ
port_mark name (Posted side word) = Some (post_mark side name)
port_mark name (Took side sides word) = Some (take_mark side name)
port_mark name deed = None

abbrev pub is_marked : ℕ → Step → Bool
is_marked mark step =
    (step_mark step.node == mark)
    || option_map_or (λ other. other == mark) (port_mark step.node step.deed) false

-- ---- the step before

-- A take ends a wait for a post in the other node, and a passed check one for a take there. These
-- steps have the mark.
abbrev pub awaited_mark : ℕ → Deed → Option ℕ
awaited_mark name (Took side sides word) = option_map (post_mark side) (neighbour_of name side)
awaited_mark name (SawRead side) = option_map (take_mark side) (neighbour_of name side)
awaited_mark name deed = None

-- there is a first turn, and the second one isn't as late
abbrev pub is_later : Option ℕ → Option ℕ → Bool
is_later None other = false
is_later (Some turn) None = true
is_later (Some turn) (Some other) = nat_lt other turn

-- A step in a turn did wait for a step of another node: turns lie between it and its own node's
-- step before, and the other node's step is in a later turn than that one.
abbrev pub has_waited : ℕ → Option ℕ → Option ℕ → Bool
has_waited turn own other = nat_lt 0 (turns_between 0 own turn) && is_later other own

abbrev pub mark_by : (ℕ → Option ℕ) → ℕ → ℕ → Option ℕ → ℕ
mark_by last_turns turn own None = own
mark_by last_turns turn own (Some other) =
    if has_waited turn (last_turns own) (last_turns other) then other else own

-- The mark of the step before a step on the path, by the turn of the last step with each mark: if
-- the step waited for another node, that of the step there; else that of its own node's steps.
abbrev pub mark_before : (ℕ → Option ℕ) → Step → ℕ
mark_before last_turns step =
    mark_by last_turns step.turn (step_mark step.node) (awaited_mark step.node step.deed)
