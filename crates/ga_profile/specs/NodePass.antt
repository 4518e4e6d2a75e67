-- How long a pass of each node takes.
use Rattle.std.specs.Prelude.{ℕ, zero, suc, ◌+◌, ◌-◌, ◌*◌, ◌/◌, List, map, Option, Some, None, nat_lt, if◌then◌else◌}
use Rattle.std.specs.List.{range_with_len}
use Rattle.ga_chip.specs.Chip.{Chip}
use Rattle.ga_observe.specs.Seen.{steps_seen, turns_numbered}
use Rattle.ga_profile.specs.declared.node_pass.NodePass.{NodePass}
use Rattle.ga_profile.specs.declared.passes.Passes.{Passes}
use Rattle.ga_profile.specs.declared.window.Window.{Window}
use Rattle.ga_profile.specs.Passes.{NO_PASSES, passes_in}

-- those of two that are more
abbrev pub more_of : Passes → Passes → Passes
more_of most other = if nat_lt most.count other.count then other else most

-- the most of some passes, the first of these
abbrev pub most_of : (ℕ → Passes) → ℕ → Passes
most_of passes zero = NO_PASSES
most_of passes (suc count) = more_of (most_of passes count) (passes count)

-- The mean pass: the turns and the steps from the first to the last time at a place, by how many
-- passes lie between. None if they are fewer than three.
abbrev pub pass_of : Passes → Option NodePass
pass_of passes =
    if nat_lt passes.count 4 then None
    else Some (record {
      turns = (passes.last.turn - passes.first.turn) / (passes.count - 1);
      works = (passes.last.number - passes.first.number) / (passes.count - 1);
    })

-- the passes through a place of a node in a window of the run of a chip
abbrev pub passes_at : Window → Chip → ℕ → ℕ → Passes
passes_at window chip index place =
    passes_in window.first (index * 256 + place)
    (steps_seen chip (turns_numbered window.end))

-- The pass of each node, by the place that it passes most.
unfoldable pub node_passes : Window → Chip → List (Option NodePass)
node_passes window chip =
    map (λ index. pass_of (most_of (passes_at window chip index) 256)) (range_with_len 0 144)
