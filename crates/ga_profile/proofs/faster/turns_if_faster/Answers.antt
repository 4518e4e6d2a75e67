use Rattle.std.proofs.Common.{◌≡◌, ◌∙◌, ◌+◌, ◌-◌, Some, ap, ap₂, arith, sym}
use Rattle.ga_profile.specs.Faster.{faster_turned, turns_if_faster}
use Rattle.ga_profile.proofs.Shortening.{made_now, never_made, one_turn}
use Rattle.ga_profile.proofs.faster.turns_if_faster.Goals as goal

pub returns-then-have_done : goal.returns-then-have_done
returns-then-have_done c =
    made_now _ c.loop-made.made c.args.first c.args.node c.args.goals.now c.loop-made.chip _
    (sym c.if-have_done.ensures) c.loop-made.invariant

pub loop-made-init : goal.loop-made-init
loop-made-init c =
    let all : c.args.most - 0 ≡ c.args.most = omega arith in
    ap (λ n. turns_if_faster n 0 c.args.first c.args.node c.args.goals.now c.args.chip.now) all

pub loop-made-preserved : goal.loop-made-preserved
loop-made-preserved c =
    one_turn c.args.most c.loop-made.made c.args.first c.args.node c.args.goals.now c.loop-made.chip
    c.make_turn.new.chip _ c.loop-made-test.true (sym c.if-have_done.ensures)
    (c.make_turn.ensures
    ∙ ap₂ (λ a b. faster_turned c.args.node (a + b) c.loop-made.chip) c.from.ensures
    c.from-in-loop-made.ensures) c.loop-made.invariant

pub returns-then-have_done-2 : goal.returns-then-have_done-2
returns-then-have_done-2 c =
    let all : c.loop-made.made ≡ c.args.most = omega arith in
    ap Some (sym all)
    ∙ made_now _ c.loop-made.made c.args.first c.args.node c.args.goals.now c.loop-made.chip _
    (sym c.if-have_done-2.ensures) c.loop-made.invariant

pub returns-else-have_done-2 : goal.returns-else-have_done-2
returns-else-have_done-2 c =
    let all : c.loop-made.made ≡ c.args.most = omega arith in
    never_made c.args.most c.loop-made.made c.args.first c.args.node c.args.goals.now
    c.loop-made.chip _ all (sym c.if-have_done-2.ensures) c.loop-made.invariant
