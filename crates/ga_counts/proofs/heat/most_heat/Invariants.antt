use Rattle.std.proofs.Common.{◌≡◌, drop, map}
use Rattle.std.specs.Prelude.{max}
use Rattle.ga_disasm.specs.Disassembling.{item_view}
use Rattle.ga_counts.specs.Counts.{word_counts}
use Rattle.ga_counts.specs.Heat.{most_from}
use Rattle.ga_counts.proofs.heat.most_heat.Given as goal

-- the most heat so far, and that of the words that are left
abbrev pub invariant-loop-address : goal.invariant-loop-address
invariant-loop-address l =
    max l.most (most_from (word_counts l.counts.words.items l.node) l.address
    (drop l.address (map item_view l.items)))
    ≡ most_from (word_counts l.counts.words.items l.node) 0 (map item_view l.items)
