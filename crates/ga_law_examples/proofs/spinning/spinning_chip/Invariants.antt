use Rattle.std.proofs.Common.{◌≡◌}
use Rattle.ga_law_examples.proofs.SpinningChip.{spinning_to}
use Rattle.ga_law_examples.proofs.spinning.spinning_chip.Given as goal

abbrev pub invariant-loop-index : goal.invariant-loop-index
invariant-loop-index l = l.chip ≡ spinning_to l.index
