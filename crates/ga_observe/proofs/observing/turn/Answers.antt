use Rattle.std.proofs.Common.{ap}
use Rattle.ga_chip.specs.Chip.{Chip, tried}
use Rattle.ga_chip.specs.Run.{side_of_turn}
use Rattle.ga_chip.proofs.Turns.{turn_ends}
use Rattle.ga_observe.proofs.Watched.{turn_closes, turn_goes, turn_opens}
use Rattle.ga_observe.proofs.observing.turn.Goals as goal

pub loop-index-init : goal.loop-index-init
loop-index-init g c =
    turn_opens g.O.Observer.has_seen c.args.observer.now c.args.chip.now c.args.number

pub loop-index-preserved : goal.loop-index-preserved
loop-index-preserved g c =
    let node = c.at-node.result in
    let side = c.side_of_turn-side.result in
    let outcome = (tried c.loop-index.chip node side).0 in
    turn_goes g.O.Observer.has_seen c.args.observer.now c.loop-index.observer
    c.attempt_step-moved.new.observer c.args.chip.now c.loop-index.chip
    c.attempt_step-moved.new.chip c.args.number c.loop-index.index c.loop-index.moved
    c.attempt_step-moved.result node side outcome c.loop-index-test.true c.at-node.ensures
    c.side_of_turn-side.ensures
    (ap (λ (chip : Chip). (outcome, chip)) c.attempt_step-moved.ensures.chip)
    c.attempt_step-moved.ensures.moved c.attempt_step-moved.ensures.seen c.loop-index.invariant

pub returns : goal.returns
returns g c =
    let ends = turn_ends c.args.chip.now c.loop-index.chip (side_of_turn c.args.number)
    c.loop-index.index c.loop-index.moved c.loop-index.invariant.made c.loop-index-test.false in
    record {
      chip = ends.0;
      moved = ends.1;
      seen = turn_closes g.O.Observer.has_seen c.args.observer.now c.loop-index.observer
          c.args.chip.now c.loop-index.chip c.args.number c.loop-index.index c.loop-index.moved
          c.loop-index-test.false c.loop-index.invariant;
    }
