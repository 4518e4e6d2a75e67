use Rattle.std.proofs.Common.{◌≡◌}
use Rattle.std.specs.Prelude.{◌==◌}
use Rattle.std.specs.List.{list_any}
use Rattle.ga_asm.specs.Image.{labels_of}
use Rattle.ga_lint.proofs.unreachable.has_label.Given as goal

-- no label so far has it
abbrev pub invariant-loop-at : goal.invariant-loop-at
invariant-loop-at l =
    list_any (λ label. label.1 == l.address) (labels_of l.at-iterator)
    ≡ list_any (λ label. label.1 == l.address) (labels_of l.labels.entries)
