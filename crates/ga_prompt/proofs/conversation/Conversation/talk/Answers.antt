use Rattle.std.proofs.Common.{◌∙◌, Ok, subst}
use Rattle.ga_prompt.specs.Conversation.{DoesLine}
use Rattle.ga_prompt.proofs.SoFar.{broken_off, ended_so, goes_further}
use Rattle.ga_prompt.proofs.conversation.Conversation.talk.Goals as goal

pub loop-fault-preserved : goal.loop-fault-preserved
loop-fault-preserved g c =
    let left = g.R.Read.remaining c.loop-fault.reader in
    let after = g.R.Read.remaining c.line.new.reader in
    let mid = g.W.Write.contents c.loop-fault.writer in
    let new = g.W.Write.contents c.line.new.writer in
    let saved = g.S.Saves.saved c.loop-fault.saves in
    let saves = g.S.Saves.saved c.line.new.saves in record {
      prompts = c.in-Ok-true.ensures.prompts ∙ c.loop-fault.invariant.prompts;
      so_far = goes_further c.args.self.now c.loop-fault.self c.line.new.self
          (g.R.Read.remaining c.args.reader.now) (g.W.Write.contents c.args.writer.now) left after
          mid new saved saves c.loop-fault.invariant.prompts c.loop-fault.invariant.so_far
          (subst
          (λ b. DoesLine c.loop-fault.self c.line.new.self left after mid new saved saves (Ok b))
          c.in-Ok-true.field-0-test c.in-Ok-true.ensures.done);
    }

pub returns-in-Ok-false-clause-talked : goal.returns-in-Ok-false-clause-talked
returns-in-Ok-false-clause-talked g c =
    let left = g.R.Read.remaining c.loop-fault.reader in
    let after = g.R.Read.remaining c.line.new.reader in
    let mid = g.W.Write.contents c.loop-fault.writer in
    let new = g.W.Write.contents c.line.new.writer in
    let saved = g.S.Saves.saved c.loop-fault.saves in
    let saves = g.S.Saves.saved c.line.new.saves in
    ended_so c.args.self.now c.loop-fault.self c.line.new.self
    (g.R.Read.remaining c.args.reader.now) (g.W.Write.contents c.args.writer.now) left after mid new
    saved saves c.loop-fault.invariant.prompts c.loop-fault.invariant.so_far
    (subst (λ b. DoesLine c.loop-fault.self c.line.new.self left after mid new saved saves (Ok b))
    c.in-Ok-false.field-0-test c.in-Ok-false.ensures.done)

pub returns-in-Err-clause-talked : goal.returns-in-Err-clause-talked
returns-in-Err-clause-talked g c =
    broken_off c.args.self.now c.loop-fault.self c.line.new.self
    (g.R.Read.remaining c.args.reader.now) (g.W.Write.contents c.args.writer.now)
    (g.R.Read.remaining c.loop-fault.reader) (g.R.Read.remaining c.line.new.reader)
    (g.W.Write.contents c.loop-fault.writer) (g.W.Write.contents c.line.new.writer)
    (g.S.Saves.saved c.loop-fault.saves) (g.S.Saves.saved c.line.new.saves) c.in-Err.fault
    c.loop-fault.invariant.prompts c.loop-fault.invariant.so_far c.in-Err.ensures.done
