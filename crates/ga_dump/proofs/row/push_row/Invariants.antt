use Rattle.std.proofs.Common.{◌≡◌, ◌++◌, drop}
use Rattle.ga_dump.specs.Row.{row_of}
use Rattle.ga_dump.proofs.row.push_row.Given as goal

abbrev pub invariant-loop-word : goal.invariant-loop-word
invariant-loop-word l =
    l.text.items ++ row_of (drop l.word-index l.words) ≡ l.fn.text.items ++ row_of l.words
