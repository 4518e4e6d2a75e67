use Rattle.ga_chip.proofs.Sharing.{ports_made}
use Rattle.ga_chip.proofs.port.Ports.new.Goals as goal

pub returns : goal.returns
returns c =
    ports_made c.args.node _ _ _ _ c.port_of.ensures c.port_of-2.ensures c.port_of-3.ensures
    c.port_of-4.ensures
