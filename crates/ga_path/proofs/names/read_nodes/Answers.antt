use Rattle.std.proofs.Common.{rules, ◌∙◌, ◌++◌, ◌-◌, length, option_map, take, drop, ap, sym}
use Rattle.ga_path.specs.Names.{nodes_in}
use Rattle.ga_path.proofs.NamedNodes.{named}
use Rattle.ga_path.proofs.names.read_nodes.Goals as goal

pub loop-rest-preserved : goal.loop-rest-preserved
loop-rest-preserved c =
    let rest = c.loop-rest.rest.now in
    c.loop-rest.invariant
    ∙ named rest c.loop-rest.nodes.items c.in_ok-node_of-in-44.field-0 (search rules) (search rules)
    (search rules)
    ∙ ap (λ items. option_map (λ more. items ++ more)
    (nodes_in (take (length rest - 4) (drop 4 rest)))) (sym c.in_ok-push-in-44.ensures.items)
