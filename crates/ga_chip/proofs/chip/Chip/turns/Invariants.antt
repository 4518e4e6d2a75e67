use Rattle.std.proofs.Common.{◌≡◌, ◌-◌, ◌≤◌, length}
use Rattle.ga_chip.specs.Run.{moves, ran, turns_of}
use Rattle.ga_chip.proofs.chip.Chip.turns.Given as goal

-- the chip is that after the turns so far, and the steps are counted
abbrev pub invariant-loop-turn : goal.invariant-loop-turn
invariant-loop-turn l =
    (l.self ≡ ran l.fn.self (turns_of l.turn))
    × (l.moved ≡ length (moves l.fn.self (turns_of l.turn))) × (l.turn ≤ l.count)

abbrev pub decreases-loop-turn : goal.decreases-loop-turn
decreases-loop-turn l = l.count - l.turn
