use Rattle.std.proofs.Common.{refl, arith}
use Rattle.ga_port.proofs.Ends.{back_push}
use Rattle.ga_port.proofs.cells.words_back.Goals as goal

pub loop-cell-preserved : goal.loop-cell-preserved
loop-cell-preserved c = record {
  words = back_push _ _ _ c.loop-cell.cell _ c.word.result c.pending.result
      c.push_reserved.ensures.items c.loop-cell.invariant.words c.pending.ensures refl
      c.word.ensures;
  count = omega (arith, c.push_reserved.ensures.len, c.loop-cell.invariant.count);
  room = omega (arith, c.push_reserved.ensures.capacity, c.loop-cell.invariant.room);
}
