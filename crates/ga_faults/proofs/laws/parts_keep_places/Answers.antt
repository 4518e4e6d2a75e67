use Rattle.ga_faults.proofs.SamePlaces.{same_places}
use Rattle.ga_faults.proofs.laws.parts_keep_places.Goals as goal

pub returns : goal.returns
returns c = same_places
