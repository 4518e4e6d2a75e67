use Rattle.std.proofs.Common.{◌∙◌, ◌++◌, ◌∷◌, [], Err, ap, append_assoc, sym}
use Rattle.std.specs.Prelude.{map}
use Rattle.std.proofs.KnownBytes.{Appends-trans}
use Rattle.ga_prompt.specs.Talk.{commands_in, ended, undone_line}
use Rattle.ga_prompt.specs.Typed.{Lines}
use Rattle.ga_prompt.proofs.Undone.{one_more}
use Rattle.ga_prompt.proofs.Written.{wrote_part, wrote_then}
use Rattle.ga_prompt.proofs.reply.write_commands.Goals as goal

pub loop-line-preserved : goal.loop-line-preserved
loop-line-preserved g c =
    let (front, wrote, is) = c.loop-line.invariant in
    let text = ended (map undone_line (commands_in (c.in-Some.line.now ∷ []))) in
    let rest = ended (map undone_line (commands_in c.next.new.self)) in (
      front ++ text,
      Appends-trans (g.W.Write.contents c.args.writer.now) (g.W.Write.contents c.loop-line.writer)
          (g.W.Write.contents c.write_if_command.new.writer) front text wrote
          c.in-Ok.ensures.written,
      is ∙ ap (λ (lines : Lines). front ++ ended (map undone_line (commands_in lines)))
          c.in-Some.ensures.steps
          ∙ ap (λ t. front ++ t) (one_more c.in-Some.line.now c.next.new.self)
          ∙ sym (append_assoc front text rest),
    )

pub returns-in-Err-clause-written : goal.returns-in-Err-clause-written
returns-in-Err-clause-written g c =
    let (front, wrote, is) = c.loop-line.invariant in
    let old = g.W.Write.contents c.args.writer.now in
    let new = g.W.Write.contents c.write_if_command.new.writer in
    let text = ended (map undone_line (commands_in (c.in-Some.line.now ∷ []))) in
    let rest = ended (map undone_line (commands_in c.next.new.self)) in
    let (part, behind, cut, some) =
    wrote_part old new (front ++ text) rest c.in-Err.fault
    (wrote_then old (g.W.Write.contents c.loop-line.writer) new front text (Err c.in-Err.fault)
    wrote c.in-Err.ensures.written) in (
      part,
      behind,
      is ∙ ap (λ (lines : Lines). front ++ ended (map undone_line (commands_in lines)))
          c.in-Some.ensures.steps
          ∙ ap (λ t. front ++ t) (one_more c.in-Some.line.now c.next.new.self)
          ∙ sym (append_assoc front text rest) ∙ cut,
      some,
    )
