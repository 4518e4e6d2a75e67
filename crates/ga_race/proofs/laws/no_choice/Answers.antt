use Rattle.ga_race.proofs.Simple.{no_choice}
use Rattle.ga_race.proofs.laws.no_choice.Goals as goal

pub returns : goal.returns
returns c = no_choice
