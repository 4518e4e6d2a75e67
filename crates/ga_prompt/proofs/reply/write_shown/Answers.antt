use Rattle.std.proofs.Common.{◌∙◌, ◌++◌, ℕ, List, Err, ap, append-nil, append_assoc, encode_utf8_all, subst, sym}
use Rattle.std.specs.Prelude.{map}
use Rattle.std.specs.Io.KnownBytes.{Appends}
use Rattle.std.specs.Char.{encode_utf8}
use Rattle.std.specs.Str.{chars}
use Rattle.std.specs.Str.Iter.{chars_rest}
use Rattle.std.proofs.KnownBytes.{Appends-trans}
use Rattle.std.proofs.StrCases.{chars_of_empty}
use Rattle.std.proofs.lemmas.Str.{IsUtf8-past_char, chars_past_char}
use Rattle.ga_messages.specs.Shown.{shown_char}
use Rattle.ga_prompt.specs.Talk.{WritesSo}
use Rattle.ga_prompt.proofs.Written.{wrote_part, wrote_then}
use Rattle.ga_prompt.proofs.reply.write_shown.Goals as goal

pub loop-c-preserved : goal.loop-c-preserved
loop-c-preserved g c =
    let (front, utf8, wrote, is) = c.loop-c.invariant in
    let parts = c.in-Some.ensures.steps.0 in
    let text = encode_utf8 (shown_char c.in-Some.c) in
    let more = subst
    (Appends (g.W.Write.contents c.loop-c.writer) (g.W.Write.contents c.write_text.new.writer))
    (c.encode_utf8.ensures.value ∙ ap encode_utf8 c.shown_char.ensures)
    c.in-Ok.ensures.written in (
      front ++ text,
      IsUtf8-past_char _ _ c.in-Some.c utf8 parts,
      Appends-trans (g.W.Write.contents c.args.writer.now) (g.W.Write.contents c.loop-c.writer)
          (g.W.Write.contents c.write_text.new.writer) front text wrote more,
      is ∙ ap (λ (cs : List ℕ). front ++ encode_utf8_all (map shown_char cs))
          (chars_past_char _ _ c.in-Some.c utf8 parts)
          ∙ sym (append_assoc front text _),
    )

pub returns-in-Err-clause-written : goal.returns-in-Err-clause-written
returns-in-Err-clause-written g c =
    let (front, utf8, wrote, is) = c.loop-c.invariant in
    let parts = c.in-Some.ensures.steps.0 in
    let old = g.W.Write.contents c.args.writer.now in
    let new = g.W.Write.contents c.write_text.new.writer in
    let text = encode_utf8 (shown_char c.in-Some.c) in
    let rest = encode_utf8_all (map shown_char (chars (chars_rest c.next.new.self))) in
    let more = subst
    (λ t. WritesSo (g.W.Write.contents c.loop-c.writer) new t (Err c.in-Err.fault))
    (c.encode_utf8.ensures.value ∙ ap encode_utf8 c.shown_char.ensures)
    c.in-Err.ensures.written in
    let (part, behind, cut, some) =
    wrote_part old new (front ++ text) rest c.in-Err.fault
    (wrote_then old (g.W.Write.contents c.loop-c.writer) new front text (Err c.in-Err.fault) wrote
    more) in (
      part,
      behind,
      is ∙ ap (λ (cs : List ℕ). front ++ encode_utf8_all (map shown_char cs))
          (chars_past_char _ _ c.in-Some.c utf8 parts)
          ∙ sym (append_assoc front text rest) ∙ cut,
      some,
    )

pub returns-clause-written : goal.returns-clause-written
returns-clause-written g c =
    let (front, utf8, wrote, is) = c.loop-c.invariant in
    subst (Appends (g.W.Write.contents c.args.writer.now) (g.W.Write.contents c.loop-c.writer))
    (sym (is ∙ ap (λ (cs : List ℕ). front ++ encode_utf8_all (map shown_char cs))
    (chars_of_empty _ c.in-None.ensures.steps.0.0) ∙ append-nil front)) wrote
