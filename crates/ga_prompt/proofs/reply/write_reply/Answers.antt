use Rattle.std.proofs.Common.{◌∙◌, ◌++◌, ◌∷◌, [], Err, ap, append_assoc, sym}
use Rattle.std.specs.Prelude.{map}
use Rattle.std.proofs.KnownBytes.{Appends-trans}
use Rattle.ga_transcript.specs.Line.{as_reply}
use Rattle.ga_prompt.specs.Talk.{ended}
use Rattle.ga_prompt.specs.Typed.{Lines}
use Rattle.ga_prompt.proofs.Written.{wrote_part, wrote_then}
use Rattle.ga_prompt.proofs.reply.write_reply.Goals as goal

pub loop-line-preserved : goal.loop-line-preserved
loop-line-preserved g c =
    let (front, wrote, is) = c.loop-line.invariant in
    let line = as_reply c.in-Some.line.now ++ 10 ∷ [] in (
      front ++ line,
      Appends-trans (g.W.Write.contents c.args.writer.now) (g.W.Write.contents c.loop-line.writer)
          (g.W.Write.contents c.write_line.new.writer) front line wrote c.in-Ok.ensures.written,
      is ∙ ap (λ (lines : Lines). front ++ ended (map as_reply lines)) c.in-Some.ensures.steps
          ∙ sym (append_assoc front line (ended (map as_reply c.next.new.self))),
    )

pub returns-in-Err-clause-written : goal.returns-in-Err-clause-written
returns-in-Err-clause-written g c =
    let (front, wrote, is) = c.loop-line.invariant in
    let line = as_reply c.in-Some.line.now ++ 10 ∷ [] in
    let rest = ended (map as_reply c.next.new.self) in
    let (part, behind, cut, some) =
    wrote_part (g.W.Write.contents c.args.writer.now) (g.W.Write.contents c.write_line.new.writer)
    (front ++ line) rest c.in-Err.fault
    (wrote_then (g.W.Write.contents c.args.writer.now) (g.W.Write.contents c.loop-line.writer)
    (g.W.Write.contents c.write_line.new.writer) front line (Err c.in-Err.fault) wrote
    c.in-Err.ensures.written) in (
      part,
      behind,
      is ∙ ap (λ (lines : Lines). front ++ ended (map as_reply lines)) c.in-Some.ensures.steps
          ∙ sym (append_assoc front line rest) ∙ cut,
      some,
    )
