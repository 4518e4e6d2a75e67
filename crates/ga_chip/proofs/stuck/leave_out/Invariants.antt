use Rattle.ga_chip.proofs.Largest.{HasLooked}
use Rattle.ga_chip.proofs.stuck.leave_out.Given as goal

abbrev pub invariant-loop-index : goal.invariant-loop-index
invariant-loop-index l =
    HasLooked (record { parts = l.parts; cells = l.cells }) l.initial.inside l.inside l.fewer
    l.index
