use Rattle.std.proofs.Common.{◌∙◌, ◌+◌, ◌-◌, ap, arith, sym}
use Rattle.ga_debug.specs.Until.{until_from}
use Rattle.ga_debug.proofs.Turns.{turn_next}
use Rattle.ga_debug.proofs.until.turns_until.Goals as goal

pub loop-turns-preserved : goal.loop-turns-preserved
loop-turns-preserved c =
    let past = c.turn_past-behind in (
      ap (λ steps. until_from (c.args.count - (c.loop-turns.turns + 1)) (c.loop-turns.turns + 1)
          (c.loop-turns.moved + steps) past.result.0 c.args.node c.args.address past.new.chip)
          c.from-moved.ensures
          ∙ turn_next c.args.count c.loop-turns.turns c.loop-turns.moved c.loop-turns.left
          c.args.node c.args.address c.loop-turns.chip past.new.chip past.result.0 past.result.1 _
          c.loop-turns-test.true (sym c.is_there.ensures ∙ c.if-is_there.false) past.ensures
          c.loop-turns.invariant.0,
      omega (arith, c.loop-turns.invariant.1, c.from-moved.ensures, past.type_inv),
    )
