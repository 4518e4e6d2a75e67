use Rattle.std.proofs.Common.{rules}
use Rattle.std.proofs.Math.Bool.{and-false}
use Rattle.ga_word.proofs.op.Op.with_three.Goals as goal

pub returns-in_default-9 : goal.returns-in_default-9
returns-in_default-9 c = simp and-false (search rules)
