use Rattle.ga_wave.proofs.Identifying as proved
use Rattle.ga_wave.proofs.laws.identifiers.Goals as goal

pub returns : goal.returns
returns c = proved.identifiers_differ
