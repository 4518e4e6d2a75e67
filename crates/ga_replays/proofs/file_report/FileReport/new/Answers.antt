use Rattle.std.proofs.Common.{◌≡◌, ◌∙◌, inl, inr, Ok, Err, ap, refl, subst}
use Rattle.ga_transcript.specs.Compare.{comparison_view}
use Rattle.ga_replays.proofs.Reports.{named_fault}
use Rattle.ga_replays.specs.FileReport.{IsComparedIn, found_text}
use Rattle.ga_messages.specs.Shown.{shown_name}
use Rattle.ga_replays.proofs.file_report.FileReport.new.Goals as goal

pub returns-in-Ok : goal.returns-in-Ok
returns-in-Ok c =
    let found = comparison_view c.in-Ok.found in
    let name : c.as_str.result.now ≡ shown_name c.args.name.now =
    c.as_str.ensures.value ∙ c.in_ok-shown.ensures in
    let in_text : c.as_str-in-Ok.result.now ≡ shown_name c.args.name.now =
    c.as_str-in-Ok.ensures.value ∙ c.in_ok-shown.ensures in
    inl (
      found,
      subst (λ name. IsComparedIn name c.args.input.now (Ok found)) name c.in-Ok.ensures,
      c.in_ok-found_text-in-Ok.ensures ∙ ap (λ name. found_text name found) in_text,
      refl,
    )

pub returns : goal.returns
returns c =
    let name : c.as_str.result.now ≡ shown_name c.args.name.now =
    c.as_str.ensures.value ∙ c.in_ok-shown.ensures in
    let fault = c.in-Err.fault in
    let is = named_fault (IsComparedIn c.as_str.result.now c.args.input.now) fault
    c.in_default.not-Memory c.in-Err.ensures in
    inr (
      fault,
      subst (λ name. IsComparedIn name c.args.input.now (Err fault)) name is,
      c.in_ok-refused-in_default.ensures,
    )
