use Rattle.std.proofs.Common.{◌≡◌, ◌≤◌, length}
use Rattle.std.specs.List.{flat_map, range_with_len}
use Rattle.ga_place.specs.Cell.{name_at}
use Rattle.ga_trace.specs.Rest.{if_spins}
use Rattle.ga_trace.specs.Spinning.{Watches}
use Rattle.ga_trace.proofs.spin_watch.SpinWatch.count.Given as goal

-- as many nodes are counted, and what is known is so
abbrev pub invariant-loop-index : goal.invariant-loop-index
invariant-loop-index l = record {
  watch : Watches l.chip l.self;
  counted : l.count
      ≡ length (flat_map (λ index. if_spins l.chip (name_at index)) (range_with_len 0 l.index));
  few : l.count ≤ l.index;
}
