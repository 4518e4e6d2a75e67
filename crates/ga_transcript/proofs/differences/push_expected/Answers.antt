use Rattle.std.proofs.Common.{rules, ◌≡◌, ◌∙◌, ◌∷◌, ◌++◌, ap, arith, length, string_bytes, sym}
use Rattle.ga_transcript.specs.Compare.{excerpt}
use Rattle.ga_transcript.specs.Following.{wanted}
use Rattle.ga_transcript.specs.Line.{Reply, kind_of}
use Rattle.ga_transcript.specs.inner.Line.{kind}
use Rattle.ga_transcript.proofs.Comparisons.{wanted_more}
use Rattle.ga_transcript.proofs.differences.push_expected.Goals as goal

pub loop-line-preserved : goal.loop-line-preserved
loop-line-preserved c =
    let lines : c.loop-line.line-iterator ≡ c.in-Some.line.now ∷ c.next.new.self = search rules in
    let reply : kind_of c.in-Some.line.now ≡ Reply =
    sym c.line_of.ensures ∙ ap kind c.in-Reply.is in (
      wanted_more c.loop-line.count c.in-Some.line.now c.loop-line.line-iterator c.next.new.self
          (string_bytes c.loop-line.report) (string_bytes c.push_expected_line.new.report)
          (string_bytes c.args.report.now ++ excerpt 45 (wanted c.args.lines))
          lines reply c.loop-line.invariant.0 c.in_ok-push_expected_line-in-Reply.ensures,
      omega (arith, c.loop-line.invariant.1, ap length lines),
    )
