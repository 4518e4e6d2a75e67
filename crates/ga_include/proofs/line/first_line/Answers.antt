use Rattle.std.proofs.Common.{arith}
use Rattle.ga_include.proofs.Cutting.{first_cut, no_cut}
use Rattle.ga_include.proofs.line.first_line.Goals as goal

pub returns-in-Some-clause-some : goal.returns-in-Some-clause-some
returns-in-Some-clause-some c =
    first_cut 10 c.args.text.now c.in-Some.line c.in-Some.behind (omega arith)
    c.in-Some.ensures.cases

pub returns-in-None-clause-none : goal.returns-in-None-clause-none
returns-in-None-clause-none c =
    λ _. no_cut 10 c.args.text.now (omega arith) c.in-None.ensures.cases
