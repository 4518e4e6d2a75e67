use Rattle.std.proofs.Common.{◌≡◌, ◌*◌, ◌≤◌}
use Rattle.ga_chip.specs.Run.{ran, tries_of}
use Rattle.ga_group.specs.Workers.{rounds_of}
use Rattle.ga_group.proofs.alone.work_alone.Given as goal

-- the rounds that are done
abbrev pub invariant-loop-turn : goal.invariant-loop-turn
invariant-loop-turn g l = record {
  runs : l.chip ≡ ran l.fn.chip (tries_of (rounds_of l.nodes l.turn));
  few : l.moved ≤ l.turn * 144;
}
