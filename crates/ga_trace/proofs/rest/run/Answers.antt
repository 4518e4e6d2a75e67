use Rattle.std.proofs.Common.{◌≡◌, ◌∙◌, ◌+◌, ◌-◌, ap, arith, rules, subst, sym}
use Rattle.ga_chip.specs.Legal.{IsLegal}
use Rattle.ga_chip.specs.Run.{side_of_turn, turn_of}
use Rattle.ga_chip.proofs.Kept.{legal_ran}
use Rattle.ga_trace.specs.Rest.{calm_after, ran_from}
use Rattle.ga_trace.specs.Spinning.{Watches}
use Rattle.ga_trace.proofs.Spinning.{watches_turn}
use Rattle.ga_trace.proofs.Resting.{run_ended, run_next, run_rests}
use Rattle.ga_trace.proofs.rest.run.Goals as goal

pub returns-then-calm-eq4 : goal.returns-then-calm-eq4
returns-then-calm-eq4 c =
    run_rests c.args.most c.loop-turns.turns c.loop-turns.moved c.loop-turns.calm
    c.loop-turns.chip _ c.loop-turns-test.true c.if-calm-eq4.true c.loop-turns.invariant.told

pub loop-turns-init : goal.loop-turns-init
loop-turns-init c = record {
  told =
      let all : c.args.most - 0 ≡ c.args.most = omega arith in
      ap (λ n. ran_from n 0 0 0 c.args.chip.now) all;
  moved = omega arith;
  calm = omega arith;
  watch = c.new-watch.ensures c.args.chip.now;
  legal = c.legal.ensures;
}

pub loop-turns-preserved : goal.loop-turns-preserved
loop-turns-preserved c =
    let rest = c.args.most - (c.loop-turns.turns + 1) in
    let next = c.made_steps-steps.new.chip in
    let turns = c.loop-turns.turns + 1 in
    record {
      told = ap (λ k. ran_from rest turns (c.loop-turns.moved + c.from-moved.result) k next)
          c.calm_after-calm.ensures.value
          ∙ ap (λ s. ran_from rest turns (c.loop-turns.moved + s)
          (calm_after c.loop-turns.calm c.made_steps-steps.result c.count-spinning.result)
          next) c.from-moved.ensures
          ∙ run_next c.args.most c.loop-turns.turns c.loop-turns.moved c.loop-turns.calm
          c.made_steps-steps.result c.count-spinning.result c.loop-turns.chip next _
          c.loop-turns-test.true (search rules) c.made_steps-steps.ensures.chip
          c.made_steps-steps.ensures.moved c.count-spinning.ensures.count
          c.loop-turns.invariant.told;
      moved = omega (
        arith,
        c.loop-turns.invariant.moved,
        c.from-moved.ensures,
        c.made_steps-steps.type_inv,
      );
      calm = search rules;
      watch = subst (λ chip. Watches chip c.count-spinning.new.self)
          (sym c.made_steps-steps.ensures.chip)
          (watches_turn c.loop-turns.chip (side_of_turn c.loop-turns.turns)
          c.count-spinning.new.self c.loop-turns.invariant.legal
          c.count-spinning.ensures.watch);
      legal = subst IsLegal (sym c.made_steps-steps.ensures.chip)
          (legal_ran c.loop-turns.chip (turn_of (side_of_turn c.loop-turns.turns))
          c.loop-turns.invariant.legal);
    }

pub returns : goal.returns
returns c =
    let all : c.loop-turns.turns ≡ c.args.most = omega (arith) in
    run_ended c.args.most c.loop-turns.turns c.loop-turns.moved c.loop-turns.calm
    c.loop-turns.chip _ all c.loop-turns.invariant.told
