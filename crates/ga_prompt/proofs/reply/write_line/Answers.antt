use Rattle.std.proofs.Common.{rules, ◌≡◌, ◌++◌, ◌∷◌, [], Err, codes, subst, sym}
use Rattle.ga_transcript.specs.Line.{as_reply}
use Rattle.ga_prompt.specs.Talk.{WritesSo}
use Rattle.ga_prompt.proofs.Written.{wrote_part, wrote_then}
use Rattle.ga_prompt.proofs.reply.write_line.Goals as goal

pub returns-in-Ok-clause-written : goal.returns-in-Ok-clause-written
returns-in-Ok-clause-written g c =
    let old = g.W.Write.contents c.args.writer.now in
    let new = g.W.Write.contents c.write_text.new.writer in
    let quoted : as_reply c.args.line.now ≡ codes ". " ++ c.args.line.now = search rules in
    subst (λ text. WritesSo old new (text ++ 10 ∷ []) c.write_text.result) (sym quoted)
    (wrote_then old (g.W.Write.contents c.write_both-2.new.writer) new
    (codes ". " ++ c.args.line.now) (codes "\n") c.write_text.result c.in-Ok.ensures.written
    c.write_text.ensures.written)

pub returns-in-Err-clause-written : goal.returns-in-Err-clause-written
returns-in-Err-clause-written g c =
    let old = g.W.Write.contents c.args.writer.now in
    let new = g.W.Write.contents c.write_both-2.new.writer in
    let quoted : as_reply c.args.line.now ≡ codes ". " ++ c.args.line.now = search rules in
    subst (λ text. WritesSo old new (text ++ 10 ∷ []) (Err c.in-Err.fault)) (sym quoted)
    (wrote_part old new (codes ". " ++ c.args.line.now) (10 ∷ []) c.in-Err.fault
    c.in-Err.ensures.written)
