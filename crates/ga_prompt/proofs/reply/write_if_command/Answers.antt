use Rattle.std.proofs.Common.{rules, ◌≡◌, false, codes, subst, sym}
use Rattle.std.specs.Prelude.{eqb}
use Rattle.std.specs.List.{starts_with}
use Rattle.ga_transcript.specs.Line.{Command, kind_of}
use Rattle.ga_prompt.specs.Talk.{WritesSo}
use Rattle.ga_prompt.proofs.Undone.{no_command, one_command}
use Rattle.ga_prompt.proofs.reply.write_if_command.Goals as goal

pub returns-in-Some-clause-written : goal.returns-in-Some-clause-written
unfolding kind_of
returns-in-Some-clause-written g c =
    let line = c.args.line.now in
    let command = c.in-Some.command.now in
    let is : kind_of line ≡ Command command = search rules in
    subst
    (λ text. WritesSo (g.W.Write.contents c.args.writer.now)
    (g.W.Write.contents c.write_command.new.writer) text c.write_command.result)
    (sym (one_command line command is)) c.write_command.ensures.written

pub returns-in-None-clause-written : goal.returns-in-None-clause-written
returns-in-None-clause-written g c =
    let line = c.args.line.now in
    let none : starts_with eqb line (codes "> ") ≡ false = search rules in
    subst
    (λ text. WritesSo (g.W.Write.contents c.args.writer.now)
    (g.W.Write.contents c.write_text.new.writer) text c.write_text.result)
    (sym (no_command line none)) c.write_text.ensures.written
