use Rattle.std.proofs.Common.{◌∙◌, ◌+◌, ◌++◌, ap, drop}
use Rattle.ga_programs.specs.Run.{nodes_for}
use Rattle.ga_programs.proofs.Dealing.{dealt_all, left_out, taken}
use Rattle.ga_programs.proofs.run.nodes_for.Goals as goal
use Rattle.ga_programs.proofs.run.nodes_for.Goals.{then-at-workers+in_ok-push, else-at-workers}

pub loop-at-preserved : goal.loop-at-preserved
loop-at-preserved c =
    elim c.if-at-workers.branch [
      | then-at-workers+in_ok-push w ↦
          taken c.args.workers c.args.worker c.loop-at.at c.index-nodes-at.result c.args.nodes.now
          c.loop-at.group.items c.if-at-workers.group.items _ c.loop-at-test.true
          c.index-nodes-at.is (w.if-at-workers.true)
          (ap (λ v. v.items) w.group-is ∙ w.in_ok-push.ensures.items) c.loop-at.invariant
      | else-at-workers w ↦
          ap (λ v. v.items ++ nodes_for c.args.workers c.args.worker
          (c.loop-at.at + 1) (drop (c.loop-at.at + 1) c.args.nodes.now)) w.group-is
          ∙ left_out c.args.workers c.args.worker c.loop-at.at c.index-nodes-at.result
          c.args.nodes.now c.loop-at.group.items _ c.loop-at-test.true c.index-nodes-at.is
          (w.if-at-workers.false) c.loop-at.invariant
    ]

pub returns : goal.returns
returns c =
    dealt_all c.args.workers c.args.worker c.loop-at.at c.args.nodes.now c.loop-at.group.items _
    c.loop-at-test.false c.loop-at.invariant
