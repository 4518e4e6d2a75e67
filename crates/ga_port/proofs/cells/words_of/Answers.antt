use Rattle.ga_port.proofs.Rows.{small_more, lines_push}
use Rattle.ga_port.proofs.cells.words_of.Goals as goal

pub loop-cell-preserved : goal.loop-cell-preserved
loop-cell-preserved c = record {
  words = lines_push _ _ _ c.args.cells.now c.loop-cell.cell-index c.cell-item.result
      c.in_ok-extend_from_slice.ensures.items c.loop-cell.invariant.words c.line_of.ensures.value
      c.loop-cell-test.true c.cell-item.is;
  small = small_more c.args.cells.now c.loop-cell.cell-index c.cell-item.result
      c.loop-cell-test.true c.cell-item.is c.line_of.ensures.bound c.loop-cell.invariant.small;
}
