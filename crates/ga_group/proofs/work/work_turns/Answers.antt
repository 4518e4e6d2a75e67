use Rattle.std.proofs.Common.{◌≡◌, ◌≤◌, ◌∷◌, ◌+◌, [], get_or, length, replicate, subst, sym, arith}
use Rattle.ga_chip.specs.Run.{side_of_turn}
use Rattle.ga_chip.proofs.Turns.{places_next}
use Rattle.ga_group.specs.Workers.{sides_of_turns}
use Rattle.ga_group.specs.inner.Tried.{left}
use Rattle.ga_group.specs.inner.Work.{HasWorkedBy}
use Rattle.ga_group.proofs.Ahead.{left_none, left_start, within_start}
use Rattle.ga_group.proofs.Gains.{ready_again, worked_more, worked_none, worked_same}
use Rattle.ga_group.proofs.Known.{none_known}
use Rattle.ga_group.proofs.work.work_turns.Goals as goal

pub loop-turn-init : goal.loop-turn-init
loop-turn-init g c = record {
  worked = worked_none (left (replicate 144 0) 0 0) c.args.seat.now c.args.parts.now
      (left_start 144) c.requires.ready.lent;
  known = none_known c.args.parts.now 144;
  within = within_start 144 c.args.turns;
  moved = omega arith;
}

pub work_turn-moved-requires : goal.work_turn-moved-requires
work_turn-moved-requires g c = record {
  ready = ready_again (left c.loop-turn.until c.loop-turn.turn 0) c.args.cells.now.table
      c.args.seat.now c.loop-turn.seat c.args.parts.now c.loop-turn.parts
      (sides_of_turns c.loop-turn.turn) c.requires.ready c.loop-turn.invariant.worked;
  known = c.loop-turn.invariant.known;
  enough = (omega arith, omega arith);
  turn = (c.loop-turn-test.true, c.requires.turns);
  within = c.loop-turn.invariant.within;
}

pub loop-turn-preserved : goal.loop-turn-preserved
loop-turn-preserved g c = record {
  worked = subst (HasWorkedBy (left c.work_turn-moved.new.until (c.loop-turn.turn + 1) 0)
      c.args.seat.now c.work_turn-moved.new.seat c.args.parts.now
      c.work_turn-moved.new.parts) (places_next side_of_turn c.loop-turn.turn)
      (worked_more (left c.loop-turn.until c.loop-turn.turn 0)
      (left c.work_turn-moved.new.until (c.loop-turn.turn + 1) 0) c.args.seat.now c.loop-turn.seat
      c.work_turn-moved.new.seat c.args.parts.now c.loop-turn.parts c.work_turn-moved.new.parts
      (sides_of_turns c.loop-turn.turn) (side_of_turn c.loop-turn.turn ∷ [])
      c.loop-turn.invariant.worked c.work_turn-moved.ensures.worked);
  known = c.work_turn-moved.ensures.known;
  within = c.work_turn-moved.ensures.within;
  moved = let few : length c.loop-turn.parts ≤ 144 = omega arith in omega arith;
}

pub returns : goal.returns
returns g c =
    let whole : c.loop-turn.turn ≡ c.args.turns = omega arith in
    let done = c.loop-turn.invariant.worked in
    subst (λ n. HasWorkedBy (λ index. 0) c.args.seat.now c.loop-turn.seat c.args.parts.now
    c.loop-turn.parts (sides_of_turns n)) whole
    (worked_same (left c.loop-turn.until c.loop-turn.turn 0) (λ index. 0) c.args.seat.now
    c.loop-turn.seat c.args.parts.now c.loop-turn.parts (sides_of_turns c.loop-turn.turn)
    (λ at. sym (left_none c.loop-turn.until c.loop-turn.turn at
    (subst (λ n. get_or c.loop-turn.until at 0 ≤ n) (sym whole)
    (c.loop-turn.invariant.within at)))) done)
