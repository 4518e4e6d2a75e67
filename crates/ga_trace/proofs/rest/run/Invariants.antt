use Rattle.std.proofs.Common.{◌≡◌, ◌-◌, ◌*◌, ◌≤◌}
use Rattle.ga_chip.specs.Legal.{IsLegal}
use Rattle.ga_trace.specs.Rest.{ran_from}
use Rattle.ga_trace.specs.Spinning.{Watches}
use Rattle.ga_trace.proofs.rest.run.Given as goal

-- it rests with the turns that are left, and what is known of spins is so
abbrev pub invariant-loop-turns : goal.invariant-loop-turns
invariant-loop-turns l = record {
  told : ran_from (l.most - l.turns) l.turns l.moved l.calm l.chip
      ≡ ran_from l.most 0 0 0 l.initial.chip;
  moved : l.moved ≤ 255 * l.turns;
  calm : l.calm ≤ 4;
  watch : Watches l.chip l.watch;
  legal : IsLegal l.chip;
}
