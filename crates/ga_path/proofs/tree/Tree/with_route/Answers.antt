use Rattle.std.proofs.Common.{◌≡◌, ◌∙◌, ◌==◌, ◌∷◌, ◌++◌, ◌≤◌, None, Ok, length, true, false, inr, rules, sym, ap, ap₂, subst}
use Rattle.std.specs.List.{list_any}
use Rattle.std.proofs.lemmas.Bool.{eqb-true}
use Rattle.ga_place.specs.Node.{IsNodeName, is_among}
use Rattle.ga_path.specs.Route.{route_fault}
use Rattle.ga_path.specs.Tree.{IsSound, TreeView, new_names, tree_with, with_route}
use Rattle.ga_path.specs.inner.Branches.{subtrees_of}
use Rattle.ga_path.proofs.Trees.{comes_back, goes_on, most_of, sound_with}
use Rattle.ga_path.proofs.tree.Tree.with_route.Goals as goal

pub returns-then-are_some_among-clause-fault : goal.returns-then-are_some_among-clause-fault
returns-then-are_some_among-clause-fault c =
    let tree : TreeView = record {
      root = c.self.inside.root;
      subtrees = subtrees_of c.self.inside.branches;
      nodes = c.self.inside.nodes.items;
    } in
    inr (ap (λ tree. with_route c.args.index tree c.args.route.now) (sym c.self.view_is)
    ∙ ap (with_route c.args.index tree) (sym c.nodes.ensures.value ∙ c.in-Some.ensures.cases.0)
    ∙ comes_back c.args.index tree c.in-Some.first.now c.in-Some.names.now (search rules)
    (search rules))

pub invariant_of-result : goal.invariant_of-result
invariant_of-result c =
    let tree : TreeView = record {
      root = c.self.inside.root;
      subtrees = subtrees_of c.self.inside.branches;
      nodes = c.self.inside.nodes.items;
    } in
    let names = c.in-Some.names.now in
    let at_root : (c.in-Some.first.now == tree.root) ≡ true = (search rules) in
    let none : list_any (λ name. is_among name tree.nodes) (new_names tree.subtrees names) ≡ false =
    (search rules) in
    let nodes_are : tree.nodes ++ new_names tree.subtrees names
    ≡ c.extend_from_slice.new.self.items = (search rules) in
    let same : tree_with tree names ≡ record {
      root = tree.root;
      subtrees = subtrees_of c.add.new.self;
      nodes = c.extend_from_slice.new.self.items;
    } =
    ap₂ (λ subtrees nodes. record { root = tree.root; subtrees = subtrees; nodes = nodes })
    (sym c.in_ok-add.ensures) nodes_are in
    let faultless : route_fault (tree.root ∷ names) ≡ None =
    ap (λ first. route_fault (first ∷ names)) (sym (eqb-true c.in-Some.first.now tree.root at_root))
    ∙ ap route_fault (sym c.in-Some.ensures.cases.0) ∙ c.nodes.ensures.faultless in
    let sound = sound_with tree names c.self.invariant.0 faultless none in
    let named : IsNodeName tree.root =
    subst IsNodeName c.name-name.ensures.value c.name-name.ensures.bound in
    subst (λ tree. IsSound tree × (length tree.nodes ≤ 144)) same
    (sound, most_of (tree_with tree names) named sound)

pub returns-clause-tree : goal.returns-clause-tree
returns-clause-tree c =
    let tree : TreeView = record {
      root = c.self.inside.root;
      subtrees = subtrees_of c.self.inside.branches;
      nodes = c.self.inside.nodes.items;
    } in
    let nodes_are : tree.nodes ++ new_names tree.subtrees c.in-Some.names.now
    ≡ c.extend_from_slice.new.self.items = (search rules) in
    ap (λ tree. with_route c.args.index tree c.args.route.now) (sym c.self.view_is)
    ∙ ap (with_route c.args.index tree) (sym c.nodes.ensures.value ∙ c.in-Some.ensures.cases.0)
    ∙ goes_on c.args.index tree c.in-Some.first.now c.in-Some.names.now (search rules)
    (search rules)
    ∙ ap Ok (ap₂ (λ subtrees nodes. record { root = tree.root; subtrees = subtrees; nodes = nodes })
    (sym c.in_ok-add.ensures) nodes_are)
