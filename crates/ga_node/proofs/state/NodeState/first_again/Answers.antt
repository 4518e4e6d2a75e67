use Rattle.std.proofs.Common.{◌≡◌, ◌∙◌, ◌+◌, ◌<◌, ap, subst, sym, arith}
use Rattle.std.proofs.lemmas.Bool.{false≢true}
use Rattle.ga_node.specs.Running.{own_run}
use Rattle.ga_node.specs.Spins.{OwnFor, uncounted}
use Rattle.ga_node.specs.State.{State}
use Rattle.ga_node.proofs.Spun.{all_made, copy_next, not_before, own_same_back, repeats, repeats_back}
use Rattle.ga_node.proofs.state.NodeState.first_again.Goals as goal

pub loop-made-init : goal.loop-made-init
loop-made-init c =
    let is = c.uncounted-ahead.ensures in
    let own = own_same_back _ c.args.self.now c.requires.own in
    let none : c.uncounted-ahead.result.steps ≡ 0 = ap (λ (s : State). s.steps) is in
    let all = all_made c.args.period c.run_own-made.result c.uncounted-ahead.result
    (subst (OwnFor c.args.period) (sym is) (λ steps below. own steps (omega (arith, below))))
    (let few = c.requires.few in omega (arith, few, none)) c.run_own-made.ensures.most
    c.run_own-made.ensures.stops in
    let sum : c.run_own-made.result ≡ 0 + c.args.period = omega (arith, all) in
    record {
      state = c.uncounted-state.ensures;
      ahead = c.run_own-made.ensures.state ∙ ap (own_run c.run_own-made.result) is
          ∙ ap (λ n. own_run n (uncounted c.args.self.now)) sum;
      before = λ steps below. absurd (omega (arith, below));
    }

pub loop-made-preserved : goal.loop-made-preserved
loop-made-preserved c =
    let made = c.loop-made.made in
    let state = c.args.self.now in
    let here = c.loop-made.invariant in
    let few = c.requires.few in
    let own = own_same_back _ state c.requires.own in
    let before : made < c.args.most = c.loop-made-test.true in
    let sum : made + 1 + c.args.period ≡ made + c.args.period + 1 = omega arith in
    record {
      state = copy_next state c.loop-made.state made here.state (omega (arith, few, before))
          c.try_own-own.new.self (own made (omega (arith, before))) c.try_own-own.ensures.step;
      ahead = copy_next state c.loop-made.ahead (made + c.args.period) here.ahead
          (omega (arith, few, before)) c.try_own-also.new.self
          (own (made + c.args.period) (omega (arith, before))) c.try_own-also.ensures.step
          ∙ ap (λ n. own_run n (uncounted state)) (sym sum);
      before = not_before state c.args.period made here.before
          (λ back. false≢true (sym c.if-is_again.false
          ∙ c.is_again.ensures.all (repeats_back state c.loop-made.state c.loop-made.ahead
          c.args.period made here.state here.ahead back)));
    }

pub returns-then-is_again : goal.returns-then-is_again
returns-then-is_again c =
    let made = c.loop-made.made in
    let here = c.loop-made.invariant in
    let before : made < c.args.most = c.loop-made-test.true in
    record {
      few = omega (arith, before);
      before = here.before;
      here = λ below. repeats c.args.self.now c.loop-made.state c.loop-made.ahead c.args.period
          made here.state here.ahead
          (ap uncounted (c.is_again.ensures.again c.if-is_again.true));
    }

pub returns : goal.returns
returns c =
    let end : c.loop-made.made ≡ c.args.most =
    omega (arith, c.loop-made-test.false, c.loop-made.auto.made-end) in
    record {
      few = omega arith;
      before = λ steps below. c.loop-made.invariant.before steps (omega (arith, below, end));
      here = λ below. absurd (omega (arith, below));
    }
