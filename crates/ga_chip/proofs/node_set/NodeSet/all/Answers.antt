use Rattle.ga_chip.proofs.Members.{all_in}
use Rattle.ga_chip.proofs.node_set.NodeSet.all.Goals as goal

pub returns : goal.returns
returns c = all_in
