use Rattle.std.proofs.Common.{◌≡◌, drop}
use Rattle.std.specs.Prelude.{find}
use Rattle.ga_chip.specs.Chip.{tried}
use Rattle.ga_trace.specs.Stepped.{is_moved, moving_side}
use Rattle.ga_trace.proofs.stepped.one_step.Given as goal

-- no side so far moves the node
abbrev pub invariant-loop-side : goal.invariant-loop-side
invariant-loop-side l = record {
  same : l.chip ≡ l.initial.chip;
  left : find (λ side. is_moved (tried l.initial.chip l.node side).0)
      (drop l.side-index l.side-items)
      ≡ moving_side l.initial.chip l.node;
}
