use Rattle.std.proofs.Common.{◌≡◌, ◌∙◌, [], inl, inr, Ok, Err, ap₂, refl, string_bytes, subst}
use Rattle.ga_transcript.specs.Compare.{comparison_view}
use Rattle.ga_replays.proofs.Reports.{named_fault}
use Rattle.ga_replays.specs.FileReport.{IsComparedIn, found_text}
use Rattle.ga_messages.specs.Shown.{shown_name}
use Rattle.ga_replays.specs.Sourced.{report_in_file}
use Rattle.ga_replays.proofs.file_report.FileReport.of_sourced.Goals as goal

pub returns-in-Ok : goal.returns-in-Ok
returns-in-Ok c =
    let found = comparison_view c.in-Ok.found in
    let count = c.args.sourced.now.count in
    let name = shown_name c.args.name.now in
    let whole : c.as_bytes.result.now ≡ c.args.sourced.now.whole =
    c.as_bytes.ensures.value ∙ c.whole.ensures in
    let named : c.as_str.result.now ≡ name = c.as_str.ensures.value ∙ c.in_ok-shown.ensures in
    let in_lines : c.deref.result.now ≡ name = c.deref.ensures ∙ c.in_ok-shown.ensures in
    let report : string_bytes c.in_ok-found-in-Ok.field-0 ≡ report_in_file count name found.report =
    c.in_ok-found-in-Ok.ensures
    ∙ ap₂ (report_in_file count) in_lines c.deref-in-Ok.ensures in
    inl (
      found,
      subst (λ input. IsComparedIn [] input (Ok found)) whole c.in-Ok.ensures,
      c.in_ok-found_text-in-Ok.ensures
          ∙ ap₂ (λ name report. found_text name (record found { report = report })) named report,
      refl,
    )

pub returns : goal.returns
returns c =
    let whole : c.as_bytes.result.now ≡ c.args.sourced.now.whole =
    c.as_bytes.ensures.value ∙ c.whole.ensures in
    let fault = c.in-Err.fault in
    let is = named_fault (IsComparedIn [] c.as_bytes.result.now) fault c.in_default.not-Memory
    c.in-Err.ensures in
    inr (
      fault,
      subst (λ input. IsComparedIn [] input (Err fault)) whole is,
      c.in_ok-refused-in_default.ensures,
    )
