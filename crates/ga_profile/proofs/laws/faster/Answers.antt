use Rattle.ga_profile.proofs.Fewest.{faster_is_tries, none_is_shorter, shorter_is_fewest}
use Rattle.ga_profile.proofs.laws.faster.Goals as goal

pub returns-clause-tries : goal.returns-clause-tries
returns-clause-tries c = faster_is_tries

pub returns-clause-fewest : goal.returns-clause-fewest
returns-clause-fewest c = shorter_is_fewest

pub returns-clause-none : goal.returns-clause-none
returns-clause-none c = none_is_shorter
