use Rattle.ga_chip.proofs.Turns.{turn_begins, turn_ends, turn_goes_on}
use Rattle.ga_chip.proofs.chip.Chip.turn_of_all.Goals as goal

pub loop-index-init : goal.loop-index-init
loop-index-init c = turn_begins c.args.self.now c.args.side

pub loop-index-preserved : goal.loop-index-preserved
loop-index-preserved c =
    turn_goes_on _ c.loop-index.self c.attempt_at.new.self c.args.side c.loop-index.index
    c.loop-index.moved c.moves-moved.result _ c.loop-index.invariant c.loop-index-test.true
    c.attempt_at.ensures c.moves-moved.ensures

pub returns : goal.returns
returns c =
    let ends = turn_ends _ c.loop-index.self c.args.side c.loop-index.index c.loop-index.moved
    c.loop-index.invariant c.loop-index-test.false in record { chip = ends.0; moved = ends.1 }
