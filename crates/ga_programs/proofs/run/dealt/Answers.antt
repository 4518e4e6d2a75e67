use Rattle.ga_programs.proofs.Dealing.{group_more}
use Rattle.ga_programs.proofs.run.dealt.Goals as goal

pub loop-worker-preserved : goal.loop-worker-preserved
loop-worker-preserved c =
    group_more c.args.workers c.loop-worker.worker c.args.nodes.now c.loop-worker.groups
    c.push.new.self c.in_ok-nodes_for.field-0 c.loop-worker.invariant c.in_ok-nodes_for.ensures
    c.in_ok-push.ensures.items
