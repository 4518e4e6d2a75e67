use Rattle.std.proofs.Common.{◌≡◌, length, rules}
use Rattle.ga_trace.proofs.AllNodes.{seen_next}
use Rattle.ga_trace.proofs.last_steps.LastStepsObserver.see.Goals as goal

pub returns : goal.returns
returns c begun steps seen =
    let last = c.args.self.now.nodes.items in
    let all : length last ≡ 144 = search rules in
    seen_next c.index-index.result begun.nodes.items last c.index_mut.result.now c.args.step steps
    c.index-index.ensures.bound all c.index-index.ensures.back c.index_mut.ensures.value seen
