use Rattle.ga_profile.specs.Path.{path_turns}
use Rattle.ga_profile.proofs.path.path_turns.Goals as goal

pub returns-clause-turns : goal.returns-clause-turns
unfolding path_turns
returns-clause-turns c = c.in_ok-turns.ensures.turns
