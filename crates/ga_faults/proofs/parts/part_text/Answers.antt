use Rattle.std.proofs.Common.{◌≡◌, ◌∙◌, [], ◌∷◌, ap, map, string_bytes}
use Rattle.std.proofs.lemmas.Result.{IfOk-weaker}
use Rattle.std.specs.List.{join_by, join_with_byte}
use Rattle.ga_faults.specs.Sections.{kept_lines, part_in, up_to}
use Rattle.ga_faults.proofs.Keeping.{joined, kept_all, kept_more, now, now_up_to}
use Rattle.ga_faults.proofs.parts.part_text.Goals as goal

pub loop-index-preserved : goal.loop-index-preserved
loop-index-preserved c =
    kept_more c.args.head c.args.section.first c.lines_in-own.result.now c.loop-index.index _
    c.kept_line.result c.loop-index.kept.items c.push.new.self.items _ c.loop-index-test.true
    c.loop-index.invariant c.kept_line.ensures c.in_ok-push.ensures.items

pub returns : goal.returns
returns c =
    let head = c.args.head in
    let first = c.args.section.first in
    let own = c.lines_in-own.result.now in
    let cut : map now own ≡ up_to c.args.section.next (map now c.args.lines.now) =
    ap (map now) c.lines_in-own.ensures ∙ now_up_to c.args.section.next c.args.lines.now in
    let all = kept_lines head first 1 (map now own) in
    let kept = kept_all head first own c.loop-index.index c.loop-index.kept.items all
    c.loop-index-test.false c.loop-index.invariant in
    let part = part_in (map now c.args.lines.now) head c.args.section in
    let same : join_by now (10 ∷ []) c.deref.result.now ≡ part =
    ap (join_by now (10 ∷ [])) c.deref.ensures.value ∙ joined c.loop-index.kept.items
    ∙ ap (join_with_byte 10) kept
    ∙ ap (λ lines. join_with_byte 10 (kept_lines head first 1 lines)) cut in
    IfOk-weaker c.join.result (λ t. string_bytes t ≡ join_by now (10 ∷ []) c.deref.result.now)
    (λ t. string_bytes t ≡ part) (λ t e. e ∙ same) c.join.ensures.ok
