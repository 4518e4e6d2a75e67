use Rattle.std.proofs.Common.{◌≡◌, ◌++◌, ◌-◌, ap, ap₂, arith, subst, take}
use Rattle.ga_chip.specs.Run.{side_of_turn, turn_of}
use Rattle.ga_race.specs.inner.Way.{IsOnWay, last_turn}
use Rattle.ga_race.proofs.TurnLists.{some_turns, turns_next}
use Rattle.ga_race.proofs.Ways.{way_begins, way_shows}
use Rattle.ga_race.proofs.way.way_to.Goals as goal

pub loop-turn-init : goal.loop-turn-init
loop-turn-init c = record {
  on_way = way_begins c.args.chip.now c.args.race.now.take.reader c.args.race.now.take.turn
      c.in_ok-watch.watch c.new-way.result.items c.legal.ensures c.counts_fit.ensures
      c.in_ok-watch.ensures.start c.in_ok-watch.ensures.seen c.new-way.ensures.items;
  few = omega arith;
}

pub loop-turn-preserved : goal.loop-turn-preserved
loop-turn-preserved c =
    let first = c.args.race.now.take.turn in
    record {
      on_way = subst (λ es. IsOnWay c.args.chip.now c.args.race.now.take.reader es
          c.push_tries.new.chip c.push_tries.new.watch c.push_tries.new.way.items)
          (turns_next first c.loop-turn.turn c.loop-turn.auto.turn)
          (c.in_ok-push_tries.ensures c.args.chip.now
          (some_turns first (c.loop-turn.turn - first)) c.loop-turn.invariant.on_way);
      few = omega (arith, c.loop-turn-test.true, c.loop-turn.auto.turn);
    }

pub returns : goal.returns
returns c =
    let race = c.args.race.now in
    let first = race.take.turn in
    let all : c.loop-turn.turn - first ≡ last_turn race - first =
    omega (arith, c.loop-turn-test.false, c.loop-turn.invariant.few, c.last_turn-last.ensures) in
    let made = c.in_ok-push_tries-2.ensures c.args.chip.now
    (some_turns first (c.loop-turn.turn - first)) c.loop-turn.invariant.on_way in
    way_shows c.args.chip.now race _ c.legal.ensures
    (subst (λ es. IsOnWay c.args.chip.now race.take.reader es c.push_tries-2.new.chip
    c.push_tries-2.new.watch c.push_tries-2.new.way.items)
    (ap₂ (λ es more. es ++ more) (ap (some_turns first) all)
    (ap₂ (λ n turn. take n (turn_of (side_of_turn turn))) c.last_tries.ensures.value
    c.last_turn-last.ensures)) made).apart
