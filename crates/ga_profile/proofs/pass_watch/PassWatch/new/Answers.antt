use Rattle.ga_profile.proofs.Passing.{passes_none}
use Rattle.ga_profile.proofs.pass_watch.PassWatch.new.Goals as goal

pub returns-clause-kept : goal.returns-clause-kept
returns-clause-kept c = passes_none c.args.from _ c.in_ok-unpassed.ensures
