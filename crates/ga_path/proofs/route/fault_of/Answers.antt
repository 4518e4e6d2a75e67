use Rattle.std.proofs.Common.{◌≡◌, ◌∙◌, None, length, reverse, take, ap, arith, rules, subst, sym}
use Rattle.ga_place.specs.Node.{IsNodeName}
use Rattle.ga_path.specs.Route.{hops_fault, route_fault}
use Rattle.std.proofs.lemmas.List.{drop_all}
use Rattle.ga_path.proofs.Hops.{at_most}
use Rattle.ga_path.proofs.Walk.{IsAt, again, goes_on}
use Rattle.ga_path.proofs.route.fault_of.Goals as goal

pub returns-then-contains-clause-fault : goal.returns-then-contains-clause-fault
returns-then-contains-clause-fault c =
    let is : IsAt c.args.nodes.now c.loop-at.at c.index-nodes-at-in-loop-at.result
    c.index-nodes-at.result = record {
      behind_first = c.loop-at.invariant.0;
      within = (search rules);
      last_is = c.index-nodes-at-in-loop-at.is;
      here_is = c.index-nodes-at.is;
    } in
    sym (c.loop-at.invariant.3
    ∙ again c.args.nodes.now c.loop-at.at c.index-nodes-at-in-loop-at.result c.index-nodes-at.result
    is (search rules) (sym c.contains.ensures.value ∙ c.if-contains.true))

pub loop-at-preserved : goal.loop-at-preserved
loop-at-preserved c =
    let is : IsAt c.args.nodes.now c.loop-at.at c.index-nodes-at-in-loop-at.result
    c.index-nodes-at.result = record {
      behind_first = c.loop-at.invariant.0;
      within = (search rules);
      last_is = c.index-nodes-at-in-loop-at.is;
      here_is = c.index-nodes-at.is;
    } in (
      search rules,
      search rules,
      search rules,
      c.loop-at.invariant.3 ∙ goes_on c.args.nodes.now c.loop-at.at
          c.index-nodes-at-in-loop-at.result c.index-nodes-at.result is (search rules)
          (sym c.contains.ensures.value ∙ c.if-contains.false),
    )

pub returns-clause-most : goal.returns-clause-most
returns-clause-most c e =
    let named : IsNodeName c.in-Some.first.now =
    subst IsNodeName c.name-name.ensures.value c.name-name.ensures.bound in
    let end : c.loop-at.at ≡ length c.args.nodes.now = (search rules) in
    let none : route_fault c.args.nodes.now ≡ None =
    c.loop-at.invariant.3 ∙ ap (hops_fault (reverse (take c.loop-at.at c.args.nodes.now)))
    (drop_all c.loop-at.at c.args.nodes.now (omega (arith, end))) in
    at_most c.args.nodes.now c.in-Some.first.now c.in-Some.ensures.item.1 named none
