use Rattle.ga_race.proofs.Rows.{Joined}
use Rattle.ga_race.proofs.clock.Clock.join.Given as goal

abbrev pub invariant-loop-index : goal.invariant-loop-index
invariant-loop-index l =
    Joined l.initial.self-inside.counts l.other-inside.counts l.self-inside.counts l.index
