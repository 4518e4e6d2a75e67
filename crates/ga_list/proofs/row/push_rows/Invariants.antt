use Rattle.std.proofs.Common.{◌≡◌, ◌++◌, drop, map, string_bytes}
use Rattle.ga_source.specs.Token.{place_of}
use Rattle.ga_asm.specs.Image.{labels_of}
use Rattle.ga_disasm.specs.Disassembling.{item_view}
use Rattle.ga_list.specs.Row.{rows_from}
use Rattle.ga_list.proofs.row.push_rows.Given as goal

-- what is written, and the lines of the words that are left
abbrev pub invariant-loop-address : goal.invariant-loop-address
invariant-loop-address g l =
    string_bytes l.text
    ++ rows_from (g.N.LineNames.names l.names) (labels_of l.labels.entries)
    (map place_of l.places) l.address
    (drop l.address l.words) (drop l.address (map item_view l.items))
    ≡ string_bytes l.initial.text ++ rows_from (g.N.LineNames.names l.names)
    (labels_of l.labels.entries)
    (map place_of l.places) 0 l.words (map item_view l.items)
