use Rattle.ga_counts.proofs.Keeping.{kept_none}
use Rattle.ga_counts.proofs.count_watch.CountWatch.new.Goals as goal

pub returns : goal.returns
returns c = kept_none _ _ c.in_ok-unfetched.ensures c.in_ok-uncounted.ensures
