use Rattle.ga_wave.proofs.ReadBack as proved
use Rattle.ga_wave.proofs.laws.reads_back.Goals as goal

pub returns : goal.returns
returns c = proved.reads_back
