-- What it means that a run of turns rests.
use Rattle.std.specs.Prelude.{◌≡◌, ◌≢◌, ℕ, ◌+◌, ◌<◌, ◌^◌, true, false, List, Some}
use Rattle.ga_place.specs.declared.side.Side.{Side}
use Rattle.ga_node.specs.State.{State}
use Rattle.ga_chip.specs.Chip.{Chip, part_of, state_of, tried}
use Rattle.ga_chip.specs.Legal.{IsLegal}
use Rattle.ga_chip.specs.Run.{ran, tries_of}
use Rattle.ga_chip.specs.declared.outcome.Try.{Try}
use Rattle.ga_chip.specs.declared.outcome.Outcome.TheVariants.{Moved}
use Rattle.ga_trace.specs.Rest.{ran_from, spins}

-- a chip rests: only a node that spins can move, since no try of another is Moved
abbrev pub OnlySpinsMove : Chip → Type 0
OnlySpinsMove chip =
    (name : ℕ) (side : Side) → spins chip name ≡ false → (tried chip name side).0 ≢ Moved

-- each node's count of steps, which has 64 bits, has room for this many more
abbrev pub CanCount : ℕ → Chip → Type 0
CanCount steps chip =
    (name : ℕ) (state : State) → state_of chip name ≡ Some state → state.steps + steps < 2 ^ 64

-- A run of turns that is said to rest leads to a chip that rests, if each node's count of steps has
-- room for a step in each turn.
abbrev pub RunRests : Type 0
RunRests =
    (chip : Chip) (most : ℕ) → IsLegal chip → CanCount most chip
    → (ran_from most 0 0 0 chip).0.rests ≡ true → OnlySpinsMove (ran_from most 0 0 0 chip).1

-- From one chip to another nothing happened but steps of nodes that spin: the same nodes spin, the
-- others are as they were, each cell holds what it held, and the chip rests.
pub record OnlySpun (chip next : Chip) : Type 0 where
  pub spin : (name : ℕ) → spins next name ≡ spins chip name
  pub others : (name : ℕ) → spins chip name ≡ false → part_of next name ≡ part_of chip name
  pub cells : next.cells ≡ chip.cells
  pub rests : OnlySpinsMove next

-- A chip that rests does so for ever, whatever nodes are tried, and in whatever order.
abbrev pub RestLasts : Type 0
RestLasts =
    (chip : Chip) (tries : List Try) → IsLegal chip → OnlySpinsMove chip
    → OnlySpun chip (ran chip (tries_of tries))
