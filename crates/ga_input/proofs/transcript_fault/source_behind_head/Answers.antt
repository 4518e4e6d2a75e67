use Rattle.std.proofs.Common.{rules, ◌≡◌, ◌∙◌, ap, length, refl, sym, true}
use Rattle.std.specs.Str.{chars}
use Rattle.std.proofs.lemmas.Str.{chars_from_encodes}
use Rattle.ga_input.specs.TranscriptFault as spec
use Rattle.ga_input.proofs.transcript_fault.source_behind_head.Goals as goal

pub returns-then-is_source_end : goal.returns-then-is_source_end
returns-then-is_source_end c =
    let text = c.args.text.now in
    let error = c.args.error.now in
    let line = c.behind_head-line.ensures in
    let count : c.count.result ≡ length (chars c.numbered_line-last.result.now) =
    search (rules, chars_from_encodes) in
    let is_end : spec.is_source_end text (spec.behind_head error.line) error.column ≡ true =
    ap (λ n. spec.is_source_end text n error.column) (sym line) ∙ sym c.is_source_end.ensures
    ∙ c.if-is_source_end.true in
    rw (is_end, count, c.numbered_line-last.ensures, line) refl
