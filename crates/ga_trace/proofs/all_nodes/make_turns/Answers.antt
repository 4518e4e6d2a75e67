use Rattle.std.proofs.Common.{◌≡◌, ◌==◌, ◌+◌, eq-eqb, rules, subst, sym, false}
use Rattle.ga_trace.specs.inner.AllDepths.{AreOnTheWay}
use Rattle.ga_trace.proofs.AllNodes.{way_ended, way_next, way_over}
use Rattle.ga_trace.proofs.all_nodes.make_turns.Goals as goal

pub returns-then-quiet-eq4 : goal.returns-then-quiet-eq4
returns-then-quiet-eq4 c =
    way_over c.args.most c.loop-number.number c.loop-number.quiet c.args.chip.now
    c.loop-number.chip c.args.depths.now.items c.loop-number.depths.items c.loop-number-test.true
    (eq-eqb c.loop-number.quiet 4 c.if-quiet-eq4.true) c.loop-number.invariant.way

pub loop-number-preserved : goal.loop-number-preserved
loop-number-preserved c =
    let made = c.make_turn-moved.ensures in
    let next = c.make_turn-moved.new in
    let going : (c.loop-number.quiet == 4) ≡ false = search rules in
    record {
      way = subst (λ quiet. AreOnTheWay c.args.most (c.loop-number.number + 1) quiet
          c.args.chip.now next.chip c.args.depths.now.items next.depths.items)
          (sym c.quiet_after-quiet.ensures.value)
          (way_next c.args.most c.loop-number.number c.loop-number.quiet c.make_turn-moved.result
          c.args.chip.now c.loop-number.chip next.chip c.args.depths.now.items
          c.loop-number.depths.items next.depths.items c.loop-number-test.true going made.chip
          made.moved made.depths c.loop-number.invariant.way);
      quiet = search rules;
    }

pub returns : goal.returns
returns c =
    way_ended c.args.most c.loop-number.number c.loop-number.quiet c.args.chip.now
    c.loop-number.chip c.args.depths.now.items c.loop-number.depths.items c.loop-number-test.false
    c.loop-number.invariant.way
