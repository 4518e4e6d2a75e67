use Rattle.ga_expand.proofs.constants.Constants.+value_within.Given as goal

abbrev pub decreases-value_within : goal.decreases-value_within
decreases-value_within l = l.levels
