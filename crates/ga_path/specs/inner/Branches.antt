-- The subtrees that the code has, without their places in memory.
use Rattle.std.specs.Prelude.{ℕ, ◌+◌}
use Rattle.ga_path.specs.Tree.{NoMore, Subtree, Subtrees}
use Rattle.ga_path.specs.declared.branches.Branches.{Branches}
use Rattle.ga_path.specs.declared.branches.Branches.TheVariants.{Branch', End}

abbrev pub subtrees_of : Branches → Subtrees
subtrees_of End = NoMore
subtrees_of (Branch' name p inner q beside) = Subtree name (subtrees_of inner) (subtrees_of beside)

-- how many nodes subtrees have
abbrev pub count_in : Subtrees → ℕ
count_in NoMore = 0
count_in (Subtree name inner beside) = 1 + count_in inner + count_in beside
