use Rattle.std.proofs.Common.{subst}
use Rattle.ga_prompt.specs.Talk.{WritesSo}
use Rattle.ga_prompt.proofs.Written.{wrote_text}
use Rattle.ga_prompt.proofs.reply.write_text.Goals as goal

pub returns-clause-written : goal.returns-clause-written
returns-clause-written g c =
    let old = g.W.Write.contents c.args.writer.now in
    let new = g.W.Write.contents c.write_output.new.writer in
    subst (λ text. WritesSo old new text c.write_output.result) c.as_bytes.ensures.value
    (wrote_text old new c.as_bytes.result.now c.write_output.result
    c.write_output.ensures.written c.write_output.ensures.part)
