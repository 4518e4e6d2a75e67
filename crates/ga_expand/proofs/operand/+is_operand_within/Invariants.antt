use Rattle.ga_expand.proofs.operand.+is_operand_within.Given as goal

abbrev pub decreases-is_operand_within : goal.decreases-is_operand_within
decreases-is_operand_within l = l.levels
