use Rattle.ga_prompt.proofs.Written.{wrote_part, wrote_then}
use Rattle.ga_prompt.proofs.reply.write_both.Goals as goal

pub returns-in-Ok-clause-written : goal.returns-in-Ok-clause-written
returns-in-Ok-clause-written g c =
    wrote_then (g.W.Write.contents c.args.writer.now) (g.W.Write.contents c.write_text.new.writer)
    (g.W.Write.contents c.write_text-in-Ok.new.writer) c.args.front.now c.args.behind.now
    c.write_text-in-Ok.result c.in-Ok.ensures.written c.write_text-in-Ok.ensures.written

pub returns-in-Err-clause-written : goal.returns-in-Err-clause-written
returns-in-Err-clause-written g c =
    wrote_part (g.W.Write.contents c.args.writer.now) (g.W.Write.contents c.write_text.new.writer)
    c.args.front.now c.args.behind.now c.in-Err.fault c.in-Err.ensures.written
