use Rattle.ga_group.proofs.laws.plans_agree.Goals as goal
use Rattle.ga_group.proofs.Agreeing as agreeing

pub returns-clause-plans : goal.returns-clause-plans
returns-clause-plans c = agreeing.plans_agree

pub returns-clause-run : goal.returns-clause-run
returns-clause-run c = agreeing.run_agrees
