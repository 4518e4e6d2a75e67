use Rattle.ga_chip.proofs.Joining.{one_port_names_no_side}
use Rattle.ga_chip.proofs.laws.one_port.Goals as goal

pub returns : goal.returns
returns c = one_port_names_no_side
