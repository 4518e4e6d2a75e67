use Rattle.ga_list.proofs.Listed.{names_listed}
use Rattle.ga_list.proofs.laws.names_are_listed.Goals as goal

pub returns : goal.returns
returns c = names_listed
