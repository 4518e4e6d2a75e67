use Rattle.std.proofs.Common.{rules}
use Rattle.std.proofs.Math.Bool.{and-false}
use Rattle.ga_word.proofs.op.Op.with_four.Goals as goal

pub returns-in_default-19 : goal.returns-in_default-19
returns-in_default-19 c = simp and-false (search rules)
