use Rattle.std.proofs.Common.{sym, ◌∙◌}
use Rattle.ga_chip.proofs.Largest.{looked_left, looked_past, looked_stuck}
use Rattle.ga_chip.proofs.stuck.leave_out.Goals.{then-inside-index+then-not-is_stuck, else-inside-index, else-inside-index-via-then-inside-index+else-not-is_stuck, else-inside-index-via-else-inside-index}
use Rattle.ga_chip.proofs.stuck.leave_out.Goals as goal

pub loop-index-preserved : goal.loop-index-preserved
loop-index-preserved c =
    elim c.if-inside-index.branch [
      | then-inside-index+then-not-is_stuck w ↦
          looked_left _ _ c.loop-index.inside _ c.loop-index.fewer _ c.loop-index.index
          w.index-parts-index.result c.requires.legal c.loop-index-test.true
          w.index-parts-index.is w.if-inside-index.true (sym w.is_stuck.ensures
          ∙ w.if-not-is_stuck.true) w.inside-is w.fewer-is c.loop-index.invariant
      | else-inside-index w ↦
          elim w.else-inside-index.branch [
            | else-inside-index-via-then-inside-index+else-not-is_stuck v ↦
                looked_stuck _ _ c.loop-index.inside _ c.loop-index.fewer _ c.loop-index.index
                v.index-parts-index.result c.requires.legal c.loop-index-test.true
                v.index-parts-index.is (sym v.is_stuck.ensures
                ∙ v.if-not-is_stuck.false) w.inside-is w.fewer-is c.loop-index.invariant
            | else-inside-index-via-else-inside-index v ↦
                looked_past _ _ c.loop-index.inside _ c.loop-index.fewer _ c.loop-index.index
                v.if-inside-index.false w.inside-is w.fewer-is c.loop-index.invariant
          ]
    ]
