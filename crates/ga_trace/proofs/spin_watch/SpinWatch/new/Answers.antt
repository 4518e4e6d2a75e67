use Rattle.std.proofs.Common.{refl}
use Rattle.ga_trace.proofs.Spinning.{watches_none}
use Rattle.ga_trace.proofs.spin_watch.SpinWatch.new.Goals as goal

pub returns : goal.returns
returns c chip = watches_none chip _ refl
