use Rattle.std.proofs.Common.{◌≡◌, ◌++◌, string_bytes}
use Rattle.ga_asm.specs.Image.{labels_of}
use Rattle.ga_list.specs.Row.{label_lines}
use Rattle.ga_list.proofs.row.push_labels.Given as goal

-- what is written, and the lines of the labels that are left
abbrev pub invariant-loop-name : goal.invariant-loop-name
invariant-loop-name l =
    string_bytes l.text ++ label_lines (labels_of l.name-iterator) l.address
    ≡ string_bytes l.initial.text ++ label_lines (labels_of l.labels.entries) l.address
