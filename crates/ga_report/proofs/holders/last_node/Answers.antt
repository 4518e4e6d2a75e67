use Rattle.std.proofs.Common.{◌≡◌, ◌∙◌, ◌+◌, suc, ap, arith}
use Rattle.ga_profile.specs.Path.{last_node, later_of}
use Rattle.ga_report.proofs.holders.last_node.Goals as goal

pub loop-index-preserved : goal.loop-index-preserved
loop-index-preserved c =
    let nodes = c.args.nodes.now in
    let index = c.loop-index.index in
    let one : suc index ≡ index + 1 = omega arith in
    record {
      latest = c.later_of-latest.ensures.value
          ∙ ap (λ latest. later_of nodes latest index) c.loop-index.invariant.latest
          ∙ ap (last_node nodes) one;
      bound = c.later_of-latest.ensures.bound;
    }

pub returns-clause-value : goal.returns-clause-value
returns-clause-value c =
    let all : c.loop-index.index ≡ 144 = omega arith in
    c.loop-index.invariant.latest ∙ ap (last_node c.args.nodes.now) all
