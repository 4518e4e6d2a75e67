use Rattle.std.proofs.lemmas.Bool.Decides.{Decides-eqb}
use Rattle.std.proofs.lemmas.Slice.Eq.{slice_eq-Decides}
use Rattle.ga_node.proofs.copy.are_same.Goals as goal

pub returns-clause-same : goal.returns-clause-same
returns-clause-same c = (slice_eq-Decides Decides-eqb _ _ _ c.eq.ensures).0

pub returns-clause-all : goal.returns-clause-all
returns-clause-all c = (slice_eq-Decides Decides-eqb _ _ _ c.eq.ensures).1
