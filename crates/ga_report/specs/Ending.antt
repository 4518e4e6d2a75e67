-- What a node does at the end of a window.
use Rattle.std.specs.Prelude.{ℕ, Option, Some, None, if◌then◌else◌}
use Rattle.std.specs.Option.{option_map_or}
use Rattle.ga_node.specs.Need.{need_of}
use Rattle.ga_node.specs.State.{State}
use Rattle.ga_node.specs.declared.need.Need.{Need}
use Rattle.ga_node.specs.declared.need.Need.TheVariants as need
use Rattle.ga_node.specs.declared.place.Place.{Place}
use Rattle.ga_node.specs.declared.place.Place.TheVariants.{Fetch}
use Rattle.ga_chip.specs.Chip.{Chip, state_of}
use Rattle.ga_trace.specs.Rest.{spins}
use Rattle.ga_profile.specs.declared.node_turns.NodeTurns.{NodeTurns}
use Rattle.ga_report.specs.declared.kind.Kind.{Kind}
use Rattle.ga_report.specs.declared.kind.Kind.TheVariants.{Works, AwaitsWord, AwaitsReader, Spins, Stopped, Idle}

-- before a fetch a node waits for code: it is idle
abbrev pub kind_to_take : Place → Kind
kind_to_take Fetch = Idle
kind_to_take place = AwaitsWord

-- what a node of this need does that has started
abbrev pub kind_by : Place → Need → Kind
kind_by place need.Own = Works
kind_by place (need.Take sides) = kind_to_take place
kind_by place (need.Post side word) = AwaitsReader
kind_by place (need.Check side) = AwaitsReader
kind_by place need.Input = Idle
kind_by place (need.Stopped stop) = Stopped

-- before it began it was idle
abbrev pub kind_since : Option ℕ → Place → Need → Kind
kind_since (Some turn) place needs = kind_by place needs
kind_since None place needs = Idle

-- what a node does in the state in which it ends, by what it did in the window
abbrev pub kind_of_state : NodeTurns → State → Kind
kind_of_state did state = kind_since did.began state.place (need_of state)

abbrev pub kind_at_end : NodeTurns → Chip → ℕ → Kind
kind_at_end did chip name =
    if spins chip name then Spins
    else option_map_or (kind_of_state did) (state_of chip name) Idle
