use Rattle.std.proofs.Common.{◌≡◌, ◌≤◌, ◌∷◌, [], arith, length, rules, subst, sym}
use Rattle.ga_path.specs.Tree.{IsSound, NoMore}
use Rattle.ga_path.proofs.Trees.{lone_sound}
use Rattle.ga_path.proofs.tree.Tree.of_root.Goals as goal

pub invariant_of-result : goal.invariant_of-result
invariant_of-result c =
    let nodes_are : c.push.new.self.items ≡ c.args.root ∷ [] = (search rules) in
    subst (λ nodes. IsSound (record { root = c.args.root; subtrees = NoMore; nodes = nodes })
    × (length nodes ≤ 144)) (sym nodes_are) (lone_sound c.args.root c.requires.edge, omega arith)
