use Rattle.std.proofs.Common.{◌≡◌, ◌<◌, ℕ, None, length}
use Rattle.std.specs.Prelude.{slice_index_or}
use Rattle.ga_place.specs.Cell.{name_at}
use Rattle.ga_waits.specs.Ring as spec
use Rattle.ga_waits.proofs.ring.next_nodes.Given as goal

-- the list has the nodes for which as many nodes wait
abbrev pub invariant-loop-index : goal.invariant-loop-index
invariant-loop-index l = record {
  count : length l.nexts ≡ 144;
  each : (k : ℕ) → k < l.index → slice_index_or l.nexts k None ≡ spec.next_of l.chip (name_at k);
}
