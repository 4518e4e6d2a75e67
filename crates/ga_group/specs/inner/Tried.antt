-- What one try of a node at the cells leaves.
use Rattle.std.specs.Prelude.{◌≡◌, ℕ, zero, suc, ◌+◌, ◌-◌, min, Bool, true, false, if◌then◌else◌, List, get_or, Option, sum_by}
use Rattle.ga_chip.specs.declared.outcome.Outcome.{Outcome}
use Rattle.ga_chip.specs.declared.outcome.Outcome.TheVariants.{Moved}
use Rattle.ga_chip.specs.declared.outcome.Try.{Try}
use Rattle.ga_chip.specs.Part.{Part, after}
use Rattle.ga_port.specs.declared.seat.Holding.{Holding}
use Rattle.ga_port.specs.Seat.{tried_in}
use Rattle.ga_group.specs.inner.Work.{IsAheadBy}

-- whether an outcome is a move
abbrev pub is_move : Outcome → Bool
is_move Moved = true
is_move outcome = false

-- The try found some word pending, or none: by this the nodes of the seat went from old to new, and
-- the node's part too; and it is known whether the try was Moved.
abbrev pub HasTried : Try → List (Option Holding) → List (Option Holding) → Part → Part → Bool
    → Type 0
HasTried what old new part next is_moved =
    (found : Option ℕ) × (new ≡ tried_in old what found) × (next ≡ (after part what.side found).1)
    × (is_moved ≡ is_move (after part what.side found).0)

-- the steps by which the part at a place is ahead of its seat, if the nodes have come to the end of
-- these numbers of turns, and those before an index have been tried in this turn
abbrev pub left : List ℕ → ℕ → ℕ → ℕ → ℕ
left until turn index at = get_or until at 0 - (turn + min 1 (index - at))

-- The same try in a turn, by a node that may be ahead: up to the end of how many turns it has come
-- before and behind it.
abbrev pub HasTurned : ℕ → ℕ → ℕ → Try → List (Option Holding) → List (Option Holding) → Part
    → Part → Bool → Type 0
HasTurned turn until next_until what old new part next is_moved =
    (found : Option ℕ) × (new ≡ tried_in old what found)
    × IsAheadBy (next_until - (turn + 1)) next new
    × (next.state.steps + (until - turn)
    ≡ part.state.steps + (next_until - (turn + 1)) + (if is_moved then 1 else 0))

-- the sum of a number for each of some places
abbrev pub sum_from : (ℕ → ℕ) → ℕ → ℕ → ℕ
sum_from a index zero = 0
sum_from a index (suc count) = a index + sum_from a (index + 1) count

-- the steps that the nodes of parts have made
abbrev pub steps_in : List Part → ℕ
steps_in parts = sum_by (λ part. part.state.steps) parts
