use Rattle.std.proofs.Common.{◌≡◌, ◌∙◌, ◌+◌, ◌++◌, false, true, ap, not, string_bytes, sym}
use Rattle.ga_transcript.specs.declared.lines.LinesLeft.{LinesLeft}
use Rattle.ga_transcript.specs.Compare.{View, comparison_of, comparison_view, difference_text}
use Rattle.ga_transcript.specs.Following.{Compared, differs, same_lines, wanted}
use Rattle.ga_transcript.specs.Reply.{reply_lines}
use Rattle.ga_transcript.proofs.Comparisons.{other_added, same_added}
use Rattle.ga_transcript.proofs.differences.add_command.Goals as goal

pub returns-in_ok-push_difference-clause-added : goal.returns-in_ok-push_difference-clause-added
returns-in_ok-push_difference-clause-added c = λ done is.
    let command : Compared = record {
      line = c.args.behind.number;
      command = c.args.command.now;
      wanted = wanted c.args.behind.lines;
      came = reply_lines c.args.came.now;
    } in
    let other : differs command ≡ true =
    ap not (ap (λ (left : LinesLeft). same_lines (wanted left.lines) (reply_lines c.args.came.now))
    (sym c.again.ensures) ∙ sym c.is_expected.ensures ∙ c.if-not-is_expected.true) in
    let old = comparison_view c.args.found.now in
    let text : string_bytes c.push_difference.new.report
    ≡ old.report ++ difference_text c.args.name.now command = c.in_ok-push_difference.ensures in
    let view : View → View = λ v. v in
    ap (λ report. view (record {
      commands = old.commands + 1;
      differences = old.differences + 1;
      report = report;
    })) text ∙ other_added c.args.name.now done command old is other

pub returns-else-not-is_expected-clause-added : goal.returns-else-not-is_expected-clause-added
returns-else-not-is_expected-clause-added c = λ done is.
    let command : Compared = record {
      line = c.args.behind.number;
      command = c.args.command.now;
      wanted = wanted c.args.behind.lines;
      came = reply_lines c.args.came.now;
    } in
    let same : differs command ≡ false =
    ap not (ap (λ (left : LinesLeft). same_lines (wanted left.lines) (reply_lines c.args.came.now))
    (sym c.again.ensures) ∙ sym c.is_expected.ensures ∙ c.if-not-is_expected.false) in
    same_added c.args.name.now done command (comparison_view c.args.found.now) is same
