use Rattle.std.proofs.Common.{◌≡◌, ℕ, ◌<◌, ◌^◌, take, Some, None, get_or, vec_items}
use Rattle.ga_port.specs.Rule.{lines_of}
use Rattle.ga_port.proofs.cells.words_of.Given as goal

abbrev pub invariant-loop-cell : goal.invariant-loop-cell
invariant-loop-cell l = record {
  words : vec_items l.words ≡ lines_of (take l.cell-index l.cells);
  small : (cell word : ℕ) → cell < l.cell-index → get_or l.cells cell None ≡ Some word
      → word < 2 ^ 18;
}
