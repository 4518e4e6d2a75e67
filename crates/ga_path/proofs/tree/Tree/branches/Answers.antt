use Rattle.std.proofs.Common.{◌<◌, subst}
use Rattle.ga_path.specs.inner.Branches.{count_in}
use Rattle.ga_path.proofs.Trees.{few_in}
use Rattle.ga_path.proofs.tree.Tree.branches.Goals as goal

pub returns-clause-few : goal.returns-clause-few
returns-clause-few c =
    subst (λ tree. count_in tree.subtrees < 144) c.self.view_is
    (few_in _ c.self.invariant.0 c.self.invariant.1)
