use Rattle.std.proofs.Common.{◌∙◌, ◌<◌, ◌-◌, ◌+◌, ◌^◌, sym, arith}
use Rattle.std.proofs.lemmas.Bool.{false≢true}
use Rattle.ga_node.proofs.Spun.{again_same, copy_next, copy_own, copy_stops, none_at_end, none_at_port, none_more, own_more, period_of}
use Rattle.ga_node.proofs.state.NodeState.period.Goals as goal

pub returns-then-not-try_own-clause-none : goal.returns-then-not-try_own-clause-none
returns-then-not-try_own-clause-none c =
    let made = c.loop-made.made in
    let here = c.loop-made.invariant in
    let room : made < 2 ^ 64 - 1 = omega (arith, c.loop-made-test.true, c.ranges.most.fits) in
    none_at_port c.args.most made c.args.self.now here.none
    (copy_stops c.args.self.now c.loop-made.copy made here.copy room
    (sym c.if-not-try_own.true ∙ c.try_own.ensures.own))

pub returns-then-is_again-clause-spins : goal.returns-then-is_again-clause-spins
returns-then-is_again-clause-spins c =
    let made = c.loop-made.made in
    let here = c.loop-made.invariant in
    let state = c.args.self.now in
    let next = c.try_own.new.self in
    let room : made < 2 ^ 64 - 1 = omega (arith, c.loop-made-test.true, c.ranges.most.fits) in
    let own = copy_own state c.loop-made.copy made here.copy room
    (sym c.if-not-try_own.false ∙ c.try_own.ensures.own) in
    period_of made state next
    (copy_next state c.loop-made.copy made here.copy room next own c.try_own.ensures.step)
    (own_more made _ here.own own)
    (again_same state next (c.is_again.ensures.again c.if-is_again.true))

pub returns-then-is_again-clause-least : goal.returns-then-is_again-clause-least
returns-then-is_again-clause-least c =
    let made = c.loop-made.made in
    none_at_end (made + 1 - 1) made c.args.self.now c.loop-made.invariant.none (omega arith)

pub loop-made-preserved : goal.loop-made-preserved
loop-made-preserved c =
    let made = c.loop-made.made in
    let here = c.loop-made.invariant in
    let state = c.args.self.now in
    let next = c.try_own.new.self in
    let room : made < 2 ^ 64 - 1 = omega (arith, c.loop-made-test.true, c.ranges.most.fits) in
    let own = copy_own state c.loop-made.copy made here.copy room
    (sym c.if-not-try_own.false ∙ c.try_own.ensures.own) in
    let is = copy_next state c.loop-made.copy made here.copy room next own c.try_own.ensures.step in
    record {
      copy = is;
      own = own_more made _ here.own own;
      none = none_more state next made here.none is
          (λ same. false≢true (sym c.if-is_again.false ∙ c.is_again.ensures.all same));
    }

pub returns-clause-none : goal.returns-clause-none
returns-clause-none c =
    none_at_end c.args.most c.loop-made.made c.args.self.now c.loop-made.invariant.none
    c.loop-made-test.false
