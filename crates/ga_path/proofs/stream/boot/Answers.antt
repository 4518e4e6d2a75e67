use Rattle.std.proofs.Common.{◌≡◌, ◌∙◌, rules, subst, sym, ap}
use Rattle.ga_path.specs.Route.{route_fault}
use Rattle.ga_path.specs.Tree.{IsTreeFault}
use Rattle.ga_path.specs.declared.error.TreeError.TheVariants.{Memory}
use Rattle.ga_path.proofs.Trees.{memory_alone}
use Rattle.ga_path.proofs.stream.boot.Goals as goal

pub prove-unreachable-requires : goal.prove-unreachable-requires
prove-unreachable-requires c =
    let memory : c.in-Err.fault ≡ Memory =
    memory_alone c.args.route.now c.in-Err.fault (ap route_fault (sym c.nodes-nodes.ensures.value)
    ∙ c.nodes-nodes.ensures.faultless) (subst (λ routes. IsTreeFault routes c.in-Err.fault)
    c.from_ref.ensures.value c.in-Err.ensures.fault) in
    search rules
