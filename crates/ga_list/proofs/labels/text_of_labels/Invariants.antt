use Rattle.std.proofs.Common.{◌≡◌, ◌++◌, string_bytes}
use Rattle.ga_list.specs.Labels.{labels_of_images}
use Rattle.ga_list.proofs.labels.text_of_labels.Given as goal

-- what is written, and the labels of the images that are left
abbrev pub invariant-loop-node : goal.invariant-loop-node
invariant-loop-node l =
    string_bytes l.text ++ labels_of_images l.node-iterator ≡ labels_of_images l.images
