use Rattle.std.proofs.Common.{◌∙◌, ◌<◌, ◌-◌, ◌^◌, arith, sym}
use Rattle.ga_chip.specs.Run.{has_break}
use Rattle.ga_node.proofs.Spun.{copy_next, own_same_back}
use Rattle.ga_trace.proofs.Unbroken.{seen_one, unbroken_all, unbroken_here, unbroken_more}
use Rattle.ga_trace.proofs.spin_watch.are_unbroken.Goals as goal

pub returns-then-not-is_unbroken : goal.returns-then-not-is_unbroken
returns-then-not-is_unbroken c =
    let made = c.loop-made._made in
    let state = c.args.state.now in
    let is_break = has_break c.args.chip.now c.args.node in
    seen_one is_break state made c.args.steps c.loop-made-test.true
    (sym (unbroken_here is_break state c.loop-made.copy made c.loop-made.invariant.copy)
    ∙ sym c.is_unbroken.ensures ∙ c.if-not-is_unbroken.true)

pub loop-made-preserved : goal.loop-made-preserved
loop-made-preserved c =
    let made = c.loop-made._made in
    let copy = c.loop-made.copy in
    let state = c.args.state.now in
    let is_break = has_break c.args.chip.now c.args.node in
    let here = c.loop-made.invariant in
    let room : made < 2 ^ 64 - 1 = omega (arith, c.loop-made-test.true, c.requires.few) in
    record {
      copy = copy_next state copy made here.copy room c.try_own-own.new.self
          (own_same_back c.args.steps state c.requires.own made c.loop-made-test.true)
          c.try_own-own.ensures.step;
      unbroken = unbroken_more is_break state made here.unbroken
          (sym (unbroken_here is_break state copy made here.copy)
          ∙ sym c.is_unbroken.ensures ∙ c.if-not-is_unbroken.false);
    }

pub returns : goal.returns
returns c =
    unbroken_all (has_break c.args.chip.now c.args.node) c.args.state.now c.loop-made._made
    c.args.steps c.loop-made.invariant.unbroken c.loop-made-test.false
