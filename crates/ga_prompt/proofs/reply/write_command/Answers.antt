use Rattle.std.proofs.Common.{◌++◌, ◌∷◌, [], Err, codes, encode_utf8_all}
use Rattle.std.specs.Prelude.{map}
use Rattle.std.specs.Str.{chars}
use Rattle.ga_messages.specs.Shown.{shown_char}
use Rattle.ga_prompt.specs.Talk.{undone_line}
use Rattle.ga_prompt.proofs.Written.{wrote_part, wrote_then}
use Rattle.std.proofs.KnownBytes.{Appends-trans}
use Rattle.ga_prompt.proofs.reply.write_command.Goals as goal

pub returns-in-Err-clause-written : goal.returns-in-Err-clause-written
returns-in-Err-clause-written g c =
    let shown = encode_utf8_all (map shown_char (chars c.args.command.now)) in
    wrote_part (g.W.Write.contents c.args.writer.now) (g.W.Write.contents c.write_text.new.writer)
    (codes "undone ") (shown ++ 10 ∷ []) c.in-Err.fault c.in-Err.ensures.written

pub returns-in-Ok-write_shown-clause-written : goal.returns-in-Ok-write_shown-clause-written
returns-in-Ok-write_shown-clause-written g c =
    let shown = encode_utf8_all (map shown_char (chars c.args.command.now)) in
    let old = g.W.Write.contents c.args.writer.now in
    let mid = g.W.Write.contents c.write_text.new.writer in
    let shown_by = g.W.Write.contents c.write_shown.new.writer in
    let new = g.W.Write.contents c.write_text-in-Ok-write_shown.new.writer in
    wrote_then old shown_by new (undone_line c.args.command.now) (codes "\n")
    c.write_text-in-Ok-write_shown.result
    (Appends-trans old mid shown_by (codes "undone ") shown c.in-Ok.ensures.written
    c.in-Ok-write_shown.ensures.written)
    c.write_text-in-Ok-write_shown.ensures.written

pub returns-in-Err-write_shown-clause-written : goal.returns-in-Err-write_shown-clause-written
returns-in-Err-write_shown-clause-written g c =
    let shown = encode_utf8_all (map shown_char (chars c.args.command.now)) in
    let old = g.W.Write.contents c.args.writer.now in
    let mid = g.W.Write.contents c.write_text.new.writer in
    let new = g.W.Write.contents c.write_shown.new.writer in
    wrote_part old new (undone_line c.args.command.now) (10 ∷ []) c.in-Err-write_shown.fault
    (wrote_then old mid new (codes "undone ") shown (Err c.in-Err-write_shown.fault)
    c.in-Ok.ensures.written c.in-Err-write_shown.ensures.written)
