use Rattle.std.proofs.Common.{◌≡◌, ◌<◌, ℕ, false, get_or}
use Rattle.ga_place.specs.Cell.{name_at}
use Rattle.ga_trace.specs.Rest.{spins}
use Rattle.ga_trace.specs.Spinning.{Watches}
use Rattle.ga_profile.proofs.turn_watch.TurnWatch.mark.Given as goal

-- as many are noted
abbrev pub invariant-loop-index : goal.invariant-loop-index
invariant-loop-index l = record {
  known : Watches l.chip l.self.spins;
  from : l.self.from ≡ l.initial.self.from;
  nodes : l.self.nodes.items ≡ l.initial.self.nodes.items;
  each : (at : ℕ) → at < l.index → get_or l.self.spinning at false ≡ spins l.chip (name_at at);
}
