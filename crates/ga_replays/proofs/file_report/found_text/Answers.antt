use Rattle.std.proofs.Common.{◌≡◌, ◌∙◌, ◌++◌, ap, arith, codes, false, string_bytes, sym, true}
use Rattle.std.specs.Fmt.{decimal}
use Rattle.std.specs.Prelude.{◌==◌}
use Rattle.ga_transcript.specs.Compare.{comparison_view}
use Rattle.ga_replays.proofs.Reports.{four_pieces, if_text, not_zero, other_text, same_text, seven_pieces}
use Rattle.ga_replays.specs.FileReport.{found_text}
use Rattle.ga_messages.specs.Shown.{shown_lines}
use Rattle.ga_replays.proofs.file_report.found_text.Goals as goal

pub returns-then-differences-eq0 : goal.returns-then-differences-eq0
returns-then-differences-eq0 c =
    let found = comparison_view c.args.found.now in
    let name = c.args.name.now in
    let count = decimal found.commands in
    let none : (found.differences == 0) ≡ true = ap (λ n. n == 0) c.if-differences-eq0.true in
    if_text c.format.result (name ++ (codes ": same " ++ (count ++ codes "\n")))
    (found_text name found) c.format.ensures.ok
    (four_pieces name (codes ": same ") count (codes "\n") ∙ sym (same_text name found none))

pub returns : goal.returns
returns c =
    let found = comparison_view c.args.found.now in
    let name = c.args.name.now in
    let other = decimal found.differences in
    let count = decimal found.commands in
    let report = string_bytes c.in_ok-report.report in
    let shown : report ≡ shown_lines found.report =
    c.in_ok-report.ensures ∙ ap shown_lines c.as_str.ensures.value in
    let some : (found.differences == 0) ≡ false =
    not_zero found.differences (λ e. absurd (omega (arith, e, c.if-differences-eq0.false))) in
    if_text c.format-2.result (report ++ (name ++ (codes ": " ++ (other ++ (codes " of "
    ++ (count ++ codes " differ\n")))))) (found_text name found) c.format-2.ensures.ok
    (seven_pieces report name (codes ": ") other (codes " of ") count (codes " differ\n")
    ∙ ap (λ t. t ++ name ++ codes ": " ++ other ++ codes " of " ++ count ++ codes " differ\n") shown
    ∙ sym (other_text name found some))
