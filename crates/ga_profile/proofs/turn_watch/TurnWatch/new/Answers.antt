use Rattle.std.proofs.Common.{refl}
use Rattle.ga_profile.proofs.Keeping.{no_run}
use Rattle.ga_profile.proofs.turn_watch.TurnWatch.new.Goals as goal

pub returns-clause-known : goal.returns-clause-known
returns-clause-known c = c.new.ensures

pub returns-clause-run : goal.returns-clause-run
returns-clause-run c chip = no_run c.args.from chip _ refl c.in_ok-unseen.ensures
