use Rattle.std.proofs.Common.{◌∙◌, ap, codes, rules, string_bytes, sym}
use Rattle.ga_place.specs.Side.{SIDES}
use Rattle.ga_place.specs.declared.side.Side.TheVariants.{Right}
use Rattle.ga_waits.specs.Sides.{told_end}
use Rattle.ga_waits.proofs.Writing.{side_left_out, side_told}
use Rattle.ga_waits.proofs.sides.push_told_ends.Goals.{then-has+in_ok-push_str+in_ok-push_told_end, else-has}
use Rattle.ga_waits.proofs.sides.push_told_ends.Goals as goal

pub loop-side-preserved : goal.loop-side-preserved
loop-side-preserved c =
    let text = told_end c.args.chip.now c.args.node in
    let i = c.loop-side.side-index in
    elim c.if-has.branch [
      | then-has+in_ok-push_str+in_ok-push_told_end w ↦ (
        search rules,
        side_told text c.loop-side.between.now (codes " and ") _ c.args.sides SIDES i Right
            (string_bytes c.loop-side.text) _ _ _ (search rules) c.loop-side.invariant.1
            (sym c.has.ensures ∙ w.if-has.true) w.in_ok-push_str.ensures.bytes
            (ap string_bytes w.text-is ∙ w.in_ok-push_told_end.ensures) (search rules),
      )
      | else-has w ↦ (
        search rules,
        side_left_out text c.loop-side.between.now (codes " and ") _ c.args.sides SIDES i Right
            (string_bytes c.loop-side.text) _ _ (search rules) c.loop-side.invariant.1
            (sym c.has.ensures ∙ w.if-has.false) (ap string_bytes w.text-is) (search rules),
      )
    ]
