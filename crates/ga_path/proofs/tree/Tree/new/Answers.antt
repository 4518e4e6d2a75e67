use Rattle.std.proofs.Common.{◌∙◌, ⊎_elim, inl, inr, rules, sym, ap}
use Rattle.ga_path.specs.Tree.{IsTreeFault, with_routes}
use Rattle.ga_path.proofs.Trees.{adds, begins, ends, is_fault, refuses}
use Rattle.ga_path.proofs.tree.Tree.new.Goals as goal

pub loop-index-init : goal.loop-index-init
loop-index-init c =
    begins c.args.routes.now c.in-Some.first.now c.in-Some-first.root.now (search rules)
    (search rules) (search rules) (search rules)
    ∙ ap (λ tree. with_routes 0 tree c.args.routes.now) (sym c.in_ok-tree.ensures.tree)

pub returns-in_err-tree-2-clause-fault : goal.returns-in_err-tree-2-clause-fault
returns-in_err-tree-2-clause-fault c =
    let fault : IsTreeFault c.args.routes.now c.in_err-tree-2.field-0.0 =
    is_fault c.args.routes.now c.in_err-tree-2.field-0.0
    (⊎_elim inl (λ is. inr (c.loop-index.invariant ∙ refuses c.loop-index.index c.loop-index.tree
    c.args.routes.now c.index-routes-index.result c.in_err-tree-2.field-0.0
    (search rules) c.index-routes-index.is is)) c.in_err-tree-2.ensures.fault) in
    search rules

pub loop-index-preserved : goal.loop-index-preserved
loop-index-preserved c =
    c.loop-index.invariant
    ∙ adds c.loop-index.index c.loop-index.tree c.in_ok-tree-2.tree c.args.routes.now
    c.index-routes-index.result (search rules) c.index-routes-index.is c.in_ok-tree-2.ensures.tree

pub returns-clause-tree : goal.returns-clause-tree
returns-clause-tree c =
    c.loop-index.invariant
    ∙ ends c.loop-index.index c.loop-index.tree c.args.routes.now (search rules)
