use Rattle.ga_report.proofs.Following.{trails_none}
use Rattle.ga_report.proofs.path_watch.PathWatch.new.Goals as goal

pub returns-clause-kept : goal.returns-clause-kept
returns-clause-kept c from = trails_none from c.args.part _ c.in_ok-no_trails.ensures
