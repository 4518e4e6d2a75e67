use Rattle.std.proofs.Common.{◌≡◌, ◌++◌, drop, map, string_bytes}
use Rattle.ga_source.specs.Token.{place_of}
use Rattle.ga_asm.specs.Image.{labels_of}
use Rattle.ga_disasm.specs.Disassembling.{item_view}
use Rattle.ga_counts.specs.Counts.{word_counts}
use Rattle.ga_counts.specs.Row.{row_at, rows_from}
use Rattle.ga_counts.proofs.row.push_rows.Given as goal

-- what is written, and the lines of the words that are left
abbrev pub invariant-loop-address : goal.invariant-loop-address
invariant-loop-address l =
    string_bytes l.text
    ++ rows_from (labels_of l.labels.entries)
    (row_at (word_counts l.counts.words.items l.node) l.most (map place_of l.places) l.before)
    l.address (drop l.address l.words) (drop l.address (map item_view l.items))
    ≡ string_bytes l.initial.text ++ rows_from (labels_of l.labels.entries)
    (row_at (word_counts l.counts.words.items l.node) l.most (map place_of l.places) l.before) 0
    l.words (map item_view l.items)
