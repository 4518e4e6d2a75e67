use Rattle.ga_chip.proofs.Grow.{ledgers_grow}
use Rattle.ga_chip.proofs.Streams.{streams_go}
use Rattle.ga_chip.proofs.laws.ledgers.Goals as goal

pub returns-clause-grow : goal.returns-clause-grow
returns-clause-grow c = ledgers_grow

pub returns-clause-streams : goal.returns-clause-streams
returns-clause-streams c = streams_go
