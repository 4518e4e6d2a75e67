use Rattle.ga_wave.proofs.DeclaredNames as proved
use Rattle.ga_wave.proofs.laws.declared_identifiers.Goals as goal

pub returns : goal.returns
returns c = proved.identifiers_declared
