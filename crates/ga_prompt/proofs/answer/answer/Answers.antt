use Rattle.std.proofs.Common.{◌≡◌, ◌∙◌, Bool, true, false, ap, codes, inl, inr, refl, subst, sym}
use Rattle.std.specs.Prelude.{MatchBool}
use Rattle.ga_transcript.specs.Live.{IsBack}
use Rattle.ga_transcript.specs.Reply.{reply_lines}
use Rattle.ga_prompt.specs.Request as spec
use Rattle.ga_prompt.specs.Request.{request_in}
use Rattle.ga_prompt.specs.Saving.{IsSaved}
use Rattle.ga_prompt.specs.Talk.{IsReply, ended, is_full, undone_text}
use Rattle.ga_prompt.specs.inner.Request.{request}
use Rattle.ga_prompt.proofs.Saved.{memory_saved, none_saved}
use Rattle.ga_prompt.proofs.answer.answer.Goals as goal

if_full : (A B : Type 0) (full : Bool) → full ≡ true → A → MatchBool full A B
if_full A B true e a = a
if_full A B false e a = absurd (cc e)

unless_full : (A B : Type 0) (full : Bool) → full ≡ false → B → MatchBool full A B
unless_full A B false e b = b
unless_full A B true e b = absurd (cc e)

pub returns-in-Say-clause-answered : goal.returns-in-Say-clause-answered
returns-in-Say-clause-answered g c =
    let text = codes "refused TooLong\n" in
    let saved = g.S.Saves.saved c.args.saves.now in
    let asks : request_in c.args.line.now ≡ spec.Say c.in-Say.command.now =
    sym c.request_in.ensures.request ∙ ap request c.in-Say.is in (
      text,
      subst (λ asked. IsReply c.args.live.now asked c.args.live.now text) (sym asks)
          (inl (if_full _ _ (is_full c.args.live.now c.in-Say.command.now)
          (sym c.is_full.ensures ∙ c.if-is_full.true) (refl, refl))),
      subst (λ asked. IsSaved c.args.live.now asked text saved saved) (sym asks)
          (none_saved saved),
      c.write_text-in-Say.ensures.written,
    )

pub returns-in-Ok-clause-answered : goal.returns-in-Ok-clause-answered
returns-in-Ok-clause-answered g c =
    let text = ended (reply_lines c.as_str.result.now) in
    let saved = g.S.Saves.saved c.args.saves.now in
    let asks : request_in c.args.line.now ≡ spec.Say c.in-Say.command.now =
    sym c.request_in.ensures.request ∙ ap request c.in-Say.is in (
      text,
      subst (λ asked. IsReply c.args.live.now asked c.say.new.self text) (sym asks)
          (inl (unless_full _ _ (is_full c.args.live.now c.in-Say.command.now)
          (sym c.is_full.ensures ∙ c.if-is_full.false) (
            c.in-Ok.ensures.said,
            ap (λ t. ended (reply_lines t)) (c.as_str.ensures.value ∙ c.in-Ok.ensures.reply),
          ))),
      subst (λ asked. IsSaved c.args.live.now asked text saved saved) (sym asks)
          (none_saved saved),
      c.write_reply.ensures.written,
    )

pub returns-in-Err-clause-answered : goal.returns-in-Err-clause-answered
returns-in-Err-clause-answered g c =
    let saved = g.S.Saves.saved c.args.saves.now in (
      codes "refused Memory\n",
      inr (c.in-Err.ensures.same, refl),
      memory_saved c.args.live.now (request_in c.args.line.now) saved saved (none_saved saved),
      c.write_text-in-Err.ensures.written,
    )

pub returns-in-Err-back-clause-answered : goal.returns-in-Err-back-clause-answered
returns-in-Err-back-clause-answered g c =
    let saved = g.S.Saves.saved c.args.saves.now in (
      codes "refused Memory\n",
      inr (c.in-Err-back.ensures.same, refl),
      memory_saved c.args.live.now (request_in c.args.line.now) saved saved (none_saved saved),
      c.write_text-in-Err-back.ensures.written,
    )

pub returns-in-Err-tell-clause-answered : goal.returns-in-Err-tell-clause-answered
returns-in-Err-tell-clause-answered g c =
    let saved = g.S.Saves.saved c.args.saves.now in
    let saves = g.S.Saves.saved c.tell.new.saves in (
      codes "refused Memory\n",
      inr (refl, refl),
      memory_saved c.args.live.now (request_in c.args.line.now) saved saves
          c.in-Err-tell.ensures.none,
      c.write_text-in-Err-tell.ensures.written,
    )

pub returns-in-Ok-back-clause-answered : goal.returns-in-Ok-back-clause-answered
returns-in-Ok-back-clause-answered g c =
    let old = c.as_str-in-Ok-back.result.now in
    let left = c.text.result.now in
    let text = undone_text old left in
    let saved = g.S.Saves.saved c.args.saves.now in
    let asks : request_in c.args.line.now ≡ spec.Back c.in-Back.count =
    sym c.request_in.ensures.request ∙ ap request c.in-Back.is in (
      text,
      subst (λ asked. IsReply c.args.live.now asked c.back.new.self text) (sym asks)
          (inl (
            subst (λ n. IsBack n c.args.live.now c.back.new.self) c.from.ensures
                c.in-Ok-back.ensures.back,
            ap (λ t. undone_text t left)
                (c.as_str-in-Ok-back.ensures.value ∙ c.in-Ok-back.ensures.text)
                ∙ ap (λ t. undone_text c.args.live.now.text t) c.text.ensures,
          )),
      subst (λ asked. IsSaved c.args.live.now asked text saved saved) (sym asks)
          (none_saved saved),
      c.write_undone.ensures.written,
    )
