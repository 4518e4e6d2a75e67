use Rattle.std.specs.List.{count_by}
use Rattle.ga_chip.specs.Stuck.{HoldsEachClosed, has_node}
use Rattle.ga_chip.proofs.stuck.stuck_nodes.Given as goal

-- the set holds each closed set
abbrev pub invariant-loop : goal.invariant-loop
invariant-loop l =
    HoldsEachClosed (record { parts = l.parts; cells = l.cells }) (has_node l.by_index)

abbrev pub decreases-loop : goal.decreases-loop
decreases-loop l = count_by (λ one. one) l.by_index
