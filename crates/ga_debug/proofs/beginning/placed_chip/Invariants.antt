use Rattle.std.proofs.Common.{◌≡◌}
use Rattle.ga_chip.specs.Chip.{reset_chip}
use Rattle.ga_debug.specs.Beginning.{all_placed}
use Rattle.ga_debug.proofs.beginning.placed_chip.Given as goal

abbrev pub invariant-loop-node : goal.invariant-loop-node
invariant-loop-node l = all_placed l.node-iterator l.chip ≡ all_placed l.images reset_chip
