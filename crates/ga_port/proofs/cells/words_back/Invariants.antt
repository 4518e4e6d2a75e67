use Rattle.std.proofs.Common.{◌≡◌, ◌≤◌, vec_items, vec_len, vec_capacity}
use Rattle.std.specs.Slots.{slots_items}
use Rattle.ga_port.specs.inner.Entering.{pending_cells}
use Rattle.ga_port.proofs.cells.words_back.Given as goal

abbrev pub invariant-loop-cell : goal.invariant-loop-cell
invariant-loop-cell l = record {
  words : vec_items l.room ≡ pending_cells l.cell (slots_items l.closed.words);
  count : vec_len l.room ≡ l.cell;
  room : l.count ≤ vec_capacity l.room;
}
