use Rattle.std.proofs.Common.{◌+◌}
use Rattle.ga_chip.proofs.Turns.{turn_begins, turn_ends, turn_goes_on, turn_skips}
use Rattle.ga_chip.proofs.chip.Chip.turn_of_awake.Goals as goal

pub loop-index-init : goal.loop-index-init
loop-index-init c =
    turn_skips _ c.args.self.now c.args.side 0 c.next_awake-index.result 0
    (turn_begins c.args.self.now c.args.side) c.next_awake-index.ensures.on
    c.next_awake-index.ensures.asleep

pub loop-index-preserved : goal.loop-index-preserved
loop-index-preserved c =
    let tried = turn_goes_on _ c.loop-index.self c.attempt_at.new.self c.args.side
    c.loop-index.index c.loop-index.moved c.moves-moved.result _ c.loop-index.invariant
    c.loop-index-test.true c.attempt_at.ensures c.moves-moved.ensures in
    turn_skips _ c.attempt_at.new.self c.args.side
    (c.loop-index.index + 1) c.next_awake-index-in-loop-index.result _ tried
    c.next_awake-index-in-loop-index.ensures.on c.next_awake-index-in-loop-index.ensures.asleep

pub returns : goal.returns
returns c =
    let ends = turn_ends _ c.loop-index.self c.args.side c.loop-index.index c.loop-index.moved
    c.loop-index.invariant c.loop-index-test.false in record { chip = ends.0; moved = ends.1 }
