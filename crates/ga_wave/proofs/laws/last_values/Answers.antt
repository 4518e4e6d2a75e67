use Rattle.ga_wave.proofs.LastValues as proved
use Rattle.ga_wave.proofs.laws.last_values.Goals as goal

pub returns : goal.returns
returns c = proved.last_values
