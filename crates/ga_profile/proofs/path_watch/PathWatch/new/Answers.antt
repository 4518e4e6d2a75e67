use Rattle.ga_profile.specs.Kinds.{kind_of}
use Rattle.ga_profile.proofs.Trailing.{trails_none}
use Rattle.ga_profile.proofs.path_watch.PathWatch.new.Goals as goal

pub returns-clause-kept : goal.returns-clause-kept
returns-clause-kept c =
    trails_none c.args.from (kind_of c.args.kinds) _ c.in_ok-no_trails.ensures
