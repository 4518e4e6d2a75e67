use Rattle.std.proofs.Common.{◌≡◌, ◌∙◌, ◌+◌, ap, subst, sym, true, arith}
use Rattle.ga_node.specs.Running.{RunsOwn, own_run}
use Rattle.ga_node.specs.Spins.{OwnFor}
use Rattle.ga_node.specs.inner.Ahead.{FirstAgain}
use Rattle.ga_node.proofs.Spun.{own_beyond, spins_after, works_on, works_to_port}
use Rattle.ga_node.proofs.state.NodeState.look_ahead.Goals as goal

pub returns-then-made-lt-LOOKED_AHEAD : goal.returns-then-made-lt-LOOKED_AHEAD
returns-then-made-lt-LOOKED_AHEAD c =
    let made = c.run_own-made.result in
    let is = c.uncounted-far.ensures in
    works_to_port c.args.self.now made (subst (RunsOwn true made) is c.run_own-made.ensures.own)
    (omega (arith, c.if-made-lt-LOOKED_AHEAD.true))
    (λ more. c.run_own-made.ensures.stops c.if-made-lt-LOOKED_AHEAD.true
    (subst (RunsOwn true (made + 1)) (sym is) more))

pub first_again-requires-clause-own : goal.first_again-requires-clause-own
first_again-requires-clause-own c =
    let made = c.run_own-made.result in
    let is = c.uncounted-far.ensures in
    let all : made ≡ 8 =
    omega (arith, c.if-made-lt-LOOKED_AHEAD.false, c.run_own-made.ensures.most) in
    subst (λ n. OwnFor (n + c.in-Some.period) c.args.self.now) all
    (own_beyond c.args.self.now made (subst (RunsOwn true made) is c.run_own-made.ensures.own)
    c.run_own-made.new.self (c.run_own-made.ensures.state ∙ ap (own_run made) is)
    c.in-Some.ensures.spins.0
    (let few = c.in-Some.ensures.most in
    let same = c.in-Some.ensures.spins.1 in omega (arith, few, same)) c.in-Some.period)

pub returns-in-Some : goal.returns-in-Some
returns-in-Some c =
    let made = c.run_own-made.result in
    let is = c.uncounted-far.ensures in
    let all : 8 ≡ made =
    omega (arith, c.if-made-lt-LOOKED_AHEAD.false, c.run_own-made.ensures.most) in
    let first = c.first_again.result in
    spins_after c.args.self.now made (subst (RunsOwn true made) is c.run_own-made.ensures.own)
    c.run_own-made.new.self (c.run_own-made.ensures.state ∙ ap (own_run made) is)
    c.in-Some.ensures.spins.0
    (let few = c.in-Some.ensures.most in
    let same = c.in-Some.ensures.spins.1 in omega (arith, few, same)) first
    (subst (λ n. FirstAgain c.args.self.now n made first) (sym c.in-Some.ensures.spins.1)
    (subst (λ n. FirstAgain c.args.self.now c.in-Some.period n first) all c.first_again.ensures))

pub returns-in-None : goal.returns-in-None
returns-in-None c =
    let made = c.run_own-made.result in
    let is = c.uncounted-far.ensures in
    works_on c.args.self.now made (subst (RunsOwn true made) is c.run_own-made.ensures.own)
    c.run_own-made.new.self (c.run_own-made.ensures.state ∙ ap (own_run made) is)
    c.in-None.ensures.none
