-- What is known of the spins of a chip's nodes, as it runs.
use Rattle.std.specs.Prelude.{◌≡◌, ℕ, suc, ◌-◌, ◌≤◌, ◌<◌, Bool, false, get_or, length, Some}
use Rattle.ga_place.specs.Cell.{name_at}
use Rattle.ga_node.specs.State.{State}
use Rattle.ga_node.specs.Need.{wants}
use Rattle.ga_node.specs.Running.{own_run}
use Rattle.ga_node.specs.Spins.{SpinsAfter, is_spinning}
use Rattle.ga_node.specs.declared.need.Need.TheVariants.{Own}
use Rattle.ga_node.specs.declared.spinning.Ahead.{Ahead}
use Rattle.ga_node.specs.declared.spinning.Ahead.TheVariants as ahead
use Rattle.ga_chip.specs.Chip.{Chip, state_of}
use Rattle.ga_chip.specs.Run.{has_break}
use Rattle.ga_trace.specs.Rest.{are_unbroken}
use Rattle.ga_trace.specs.declared.spin_watch.Known.{Known}
use Rattle.ga_trace.specs.declared.spin_watch.SpinWatch.{SpinWatch}

-- A node spins in none of this many states. Between them are own steps.
pub record IsClear (state : State) (states : ℕ) : Type 0 where
  pub own : (steps : ℕ) → suc steps < states → wants (own_run steps state) ≡ Own
  pub none : (steps : ℕ) → steps < states → is_spinning (own_run steps state) ≡ false

-- What is left ahead of a node that has passed some of it. If it begins to spin, it is known
-- whether none of its steps from there on begins at a breakpoint.
abbrev pub LeftAhead : (ℕ → Bool) → Bool → State → Ahead → ℕ → Type 0
LeftAhead is_break unbroken state (ahead.Spins after) passed =
    SpinsAfter state (after - passed)
    × (are_unbroken is_break 4 (own_run (after - passed) state) ≡ unbroken)
LeftAhead is_break unbroken state (ahead.Works states) passed = IsClear state (states - passed)

-- What is known of a node with these breakpoints is so in its state.
pub record Knows (is_break : ℕ → Bool) (known : Known) (state : State) : Type 0 where
  pub earlier : known.steps ≤ state.steps
  pub left : LeftAhead is_break known.is_unbroken state known.ahead (state.steps - known.steps)

abbrev pub nothing_known : Known
nothing_known = record { steps = 0; ahead = ahead.Works 0; is_unbroken = false }

-- What is known of each node is so in the chip.
pub record Watches (chip : Chip) (watch : SpinWatch) : Type 0 where
  pub nodes : length watch.nodes ≡ 144
  pub knows : (index : ℕ) → index < 144 → (state : State)
      → state_of chip (name_at index) ≡ Some state
      → Knows (has_break chip (name_at index)) (get_or watch.nodes index nothing_known) state
