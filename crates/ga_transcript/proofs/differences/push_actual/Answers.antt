use Rattle.std.proofs.Common.{rules, ◌≡◌, ◌∙◌, ◌∷◌, ◌++◌, ap, arith, length, string_bytes, sym}
use Rattle.std.specs.Prelude.{map}
use Rattle.ga_transcript.specs.Compare.{excerpt}
use Rattle.ga_transcript.specs.Line.{as_reply}
use Rattle.ga_transcript.specs.Reply.{lines_in, reply_lines}
use Rattle.ga_transcript.specs.inner.Excerpt.{shown_behind}
use Rattle.ga_transcript.proofs.Comparisons.{excerpt_begins, few_lines, shown_more}
use Rattle.ga_transcript.proofs.differences.push_actual.Goals as goal

pub loop-line-init : goal.loop-line-init
loop-line-init c =
    let lines : c.into_iter-line-iterator.result ≡ lines_in c.args.came.now = search rules in
    let report = string_bytes c.args.report.now in (
      ap (λ lines. report ++ shown_behind 43 0 (map as_reply lines)) lines
          ∙ ap (λ t. report ++ t) (excerpt_begins 43 (reply_lines c.args.came.now)),
      omega (arith, few_lines c.args.came.now, ap length lines),
    )

pub loop-line-preserved : goal.loop-line-preserved
loop-line-preserved c =
    let lines : c.loop-line.line-iterator ≡ c.in-Some.line.now ∷ c.next.new.self = search rules in
    let report = string_bytes c.loop-line.report in (
      shown_more 43 c.loop-line.count (as_reply c.in-Some.line.now)
          (map as_reply c.next.new.self) report (string_bytes c.push_actual_line.new.report)
          (string_bytes c.args.report.now ++ excerpt 43 (reply_lines c.args.came.now))
          (ap (λ lines. report ++ shown_behind 43 c.loop-line.count (map as_reply lines))
          (sym lines) ∙ c.loop-line.invariant.0)
          c.in_ok-push_actual_line.ensures,
      omega (arith, c.loop-line.invariant.1, ap length lines),
    )
