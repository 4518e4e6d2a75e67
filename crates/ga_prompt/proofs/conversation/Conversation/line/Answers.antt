use Rattle.std.proofs.Common.{rules, ◌≡◌, ◌∙◌, Ok, ap, false, refl, subst, sym, true}
use Rattle.std.specs.Prelude.{not}
use Rattle.ga_prompt.specs.declared.conversation.Conversation.{Conversation}
use Rattle.ga_prompt.specs.Conversation.{DoesLine, last_of, live_of}
use Rattle.ga_prompt.specs.Request.{request_in}
use Rattle.ga_prompt.specs.Saving.{IsSaved}
use Rattle.ga_prompt.specs.Talk.{IsReply, is_quit}
use Rattle.ga_prompt.specs.inner.Typed.{IsNext}
use Rattle.ga_prompt.proofs.Turns.{answers, ends, fails_to_answer, fails_to_end}
use Rattle.ga_prompt.proofs.conversation.Conversation.line.Goals as goal

pub returns-in-Ok-clause-done : goal.returns-in-Ok-clause-done
returns-in-Ok-clause-done g c =
    let old = c.args.self.now in
    let new : Conversation = record {
      live = old.live;
      prompts = old.prompts;
      typed = c.next.new.self;
      reply = old.reply;
      writes = c.write_end.new.writes;
    } in
    let input = g.R.Read.remaining c.args.reader.now in
    let left = g.R.Read.remaining c.next.new.reader in
    let none : c.in_ok-is_there.is_there ≡ false = search rules in
    ends old new input left (g.W.Write.contents c.args.writer.now)
    (g.W.Write.contents c.write_prompt.new.writer) (g.W.Write.contents c.write_end.new.writer)
    (g.S.Saves.saved c.args.saves.now) (last_of new) refl
    (subst (λ b. IsNext (last_of old) (last_of new) input left (Ok b)) none
    c.in_ok-is_there.ensures.next)
    c.in_ok-write_prompt.ensures.written c.in-Ok.ensures.written

pub returns-in-Err-clause-done : goal.returns-in-Err-clause-done
returns-in-Err-clause-done g c =
    let old = c.args.self.now in
    let new : Conversation = record {
      live = old.live;
      prompts = old.prompts;
      typed = c.next.new.self;
      reply = old.reply;
      writes = c.write_end.new.writes;
    } in
    let input = g.R.Read.remaining c.args.reader.now in
    let left = g.R.Read.remaining c.next.new.reader in
    let none : c.in_ok-is_there.is_there ≡ false = search rules in
    fails_to_end old new input left (g.W.Write.contents c.args.writer.now)
    (g.W.Write.contents c.write_prompt.new.writer) (g.W.Write.contents c.write_end.new.writer)
    (g.S.Saves.saved c.args.saves.now) (last_of new) c.in-Err.fault refl
    (subst (λ b. IsNext (last_of old) (last_of new) input left (Ok b)) none
    c.in_ok-is_there.ensures.next)
    c.in_ok-write_prompt.ensures.written c.in-Err.ensures.written

pub returns-in-Ok-answer-clause-done : goal.returns-in-Ok-answer-clause-done
returns-in-Ok-answer-clause-done g c =
    let old = c.args.self.now in
    let new : Conversation = record {
      live = c.answer.new.live;
      prompts = old.prompts;
      typed = c.next.new.self;
      reply = c.answer.new.reply;
      writes = c.answer.new.writes;
    } in
    let input = g.R.Read.remaining c.args.reader.now in
    let left = g.R.Read.remaining c.next.new.reader in
    let before = g.W.Write.contents c.args.writer.now in
    let after = g.W.Write.contents c.answer.new.writer in
    let saved = g.S.Saves.saved c.args.saves.now in
    let saves = g.S.Saves.saved c.answer.new.saves in
    let some : c.in_ok-is_there.is_there ≡ true = search rules in
    let asked : c.as_slice-line.result.now ≡ last_of new = c.as_slice-line.ensures.value in
    let (text, reply, kept, wrote) = c.in-Ok-answer.ensures.answered in
    subst (λ b. DoesLine old new input left before after saved saves (Ok (not b)))
    (sym (c.is_quit.ensures ∙ ap (λ line. is_quit (request_in line)) asked))
    (answers old new input left before (g.W.Write.contents c.write_prompt.new.writer) after saved
    saves text
    (subst (λ b. IsNext (last_of old) (last_of new) input left (Ok b)) some
    c.in_ok-is_there.ensures.next)
    (subst (λ line. IsReply (live_of old) (request_in line) (live_of new) text) asked reply)
    (subst (λ line. IsSaved (live_of old) (request_in line) text saved saves) asked kept)
    c.in_ok-write_prompt.ensures.written wrote)

pub returns-in-Err-answer-clause-done : goal.returns-in-Err-answer-clause-done
returns-in-Err-answer-clause-done g c =
    let old = c.args.self.now in
    let new : Conversation = record {
      live = c.answer.new.live;
      prompts = old.prompts;
      typed = c.next.new.self;
      reply = c.answer.new.reply;
      writes = c.answer.new.writes;
    } in
    let input = g.R.Read.remaining c.args.reader.now in
    let left = g.R.Read.remaining c.next.new.reader in
    let before = g.W.Write.contents c.args.writer.now in
    let after = g.W.Write.contents c.answer.new.writer in
    let saved = g.S.Saves.saved c.args.saves.now in
    let saves = g.S.Saves.saved c.answer.new.saves in
    let some : c.in_ok-is_there.is_there ≡ true = search rules in
    let asked : c.as_slice-line.result.now ≡ last_of new = c.as_slice-line.ensures.value in
    let (text, reply, kept, wrote) = c.in-Err-answer.ensures.answered in
    fails_to_answer old new input left before (g.W.Write.contents c.write_prompt.new.writer) after
    saved saves text c.in-Err-answer.fault
    (subst (λ b. IsNext (last_of old) (last_of new) input left (Ok b)) some
    c.in_ok-is_there.ensures.next)
    (subst (λ line. IsReply (live_of old) (request_in line) (live_of new) text) asked reply)
    (subst (λ line. IsSaved (live_of old) (request_in line) text saved saves) asked kept)
    c.in_ok-write_prompt.ensures.written wrote
