use Rattle.std.proofs.Common.{◌≡◌, ◌++◌, string_bytes}
use Rattle.ga_asm.specs.Image.{labels_of}
use Rattle.ga_list.specs.Labels.{labels_of_node}
use Rattle.ga_list.proofs.labels.push_labels.Given as goal

-- what is written, and the labels that are left
abbrev pub invariant-loop-name : goal.invariant-loop-name
invariant-loop-name l =
    string_bytes l.text ++ labels_of_node l.node (labels_of l.name-iterator)
    ≡ string_bytes l.initial.text ++ labels_of_node l.node l.image.labels
