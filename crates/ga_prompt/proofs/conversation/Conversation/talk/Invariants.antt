use Rattle.std.proofs.Common.{◌≡◌}
use Rattle.ga_prompt.specs.Conversation.{prompts_of, reads_left}
use Rattle.ga_prompt.specs.inner.Talk.{IsSoFar}
use Rattle.ga_prompt.proofs.conversation.Conversation.talk.Given as goal

-- what was written so far
abbrev pub invariant-loop-fault : goal.invariant-loop-fault
invariant-loop-fault g l = record {
  prompts : prompts_of l.self ≡ prompts_of l.initial.self;
  so_far : IsSoFar l.initial.self (g.R.Read.remaining l.initial.reader)
      (g.W.Write.contents l.initial.writer) l.self (g.R.Read.remaining l.reader)
      (g.W.Write.contents l.writer);
}

abbrev pub decreases-loop-fault : goal.decreases-loop-fault
decreases-loop-fault g l = reads_left l.self
