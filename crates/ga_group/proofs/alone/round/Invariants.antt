use Rattle.std.proofs.Common.{◌≡◌, ◌+◌, ◌≤◌, drop, length}
use Rattle.ga_chip.specs.Run.{moves, ran, tries_of}
use Rattle.ga_group.specs.Workers.{round_of}
use Rattle.ga_group.proofs.alone.round.Given as goal

-- the nodes before have been tried, and the others not yet
abbrev pub invariant-loop-node : goal.invariant-loop-node
invariant-loop-node l = record {
  runs : ran l.chip (tries_of (round_of (drop l.node-index l.nodes) l.side))
      ≡ ran l.fn.chip (tries_of (round_of l.nodes l.side));
  moves : l.moved + length (moves l.chip (tries_of (round_of (drop l.node-index l.nodes) l.side)))
      ≡ length (moves l.fn.chip (tries_of (round_of l.nodes l.side)));
  few : l.moved ≤ l.node-index;
}
