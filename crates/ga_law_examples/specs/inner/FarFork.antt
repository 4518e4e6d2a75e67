-- A tree with a fork behind its first hop.
use Rattle.std.specs.Prelude.{[], ◌∷◌}
use Rattle.ga_path.specs.Tree.{NoMore, Subtree, TreeView}

-- the routes 708, 709, 710 and 708, 709, 609
abbrev pub far_fork : TreeView
far_fork = record {
  root = 708;
  subtrees = Subtree 709 (Subtree 710 NoMore (Subtree 609 NoMore NoMore)) NoMore;
  nodes = 708 ∷ 709 ∷ 710 ∷ 609 ∷ [];
}
