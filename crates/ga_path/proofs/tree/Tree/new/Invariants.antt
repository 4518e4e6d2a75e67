use Rattle.std.proofs.Common.{◌≡◌, drop}
use Rattle.ga_path.specs.Tree.{tree_of, with_routes}
use Rattle.ga_path.proofs.tree.Tree.new.Given as goal

-- the tree of all routes is the one so far with those that are left
abbrev pub invariant-loop-index : goal.invariant-loop-index
invariant-loop-index l = tree_of l.routes ≡ with_routes l.index l.tree (drop l.index l.routes)
