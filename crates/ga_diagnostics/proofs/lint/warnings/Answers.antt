use Rattle.std.proofs.Common.{◌≡◌, subst, sym}
use Rattle.ga_asm.specs.Text.{IsTextFault}
use Rattle.ga_faults.specs.Origin.{at_origin}
use Rattle.ga_input.specs.Fault.{FailsRightly}
use Rattle.ga_diagnostics.specs.Lines.{origins_of}
use Rattle.ga_diagnostics.specs.LintJob.{IsLintOutput}
use Rattle.ga_input.specs.TextFault.{shown_fault}
use Rattle.ga_lint.specs.Linting.{HasWarnings}
use Rattle.ga_diagnostics.proofs.ExpansionFaults.{expansion_fails}
use Rattle.ga_diagnostics.proofs.lint.warnings.Goals as goal

pub returns-in-Ok : goal.returns-in-Ok
returns-in-Ok c = (
  c.in_ok-text.made,
  c.in_ok-text.ensures.made,
  (
    c.in-Ok.found.items,
    subst (λ text. HasWarnings text c.in-Ok.found.items) c.as_str.ensures.value
        c.in-Ok.ensures.warnings,
    cc (c.in_ok-warnings_text-in-Ok.ensures, c.in_ok-text.ensures.text, c.deref.ensures.value),
  ),
)

pub returns : goal.returns
returns c =
    let origins = origins_of c.args.lines.now in
    let input = c.args.input.now in
    let made = c.in_ok-text.made in
    let error = c.in-Err.error in
    let shown : c.in_ok-shown_fault-in-Err.field-0
    ≡ shown_fault input (at_origin input made error) =
    cc (
      c.in_ok-shown_fault-in-Err.ensures,
      c.in_ok-at_origin-in-Err.ensures,
      c.in_ok-text.ensures.text,
    ) in
    subst (FailsRightly (IsLintOutput origins c.args.form input)) (sym shown)
    (expansion_fails (IsLintOutput origins c.args.form input) input made (λ fault is. is)
    c.in_ok-text.ensures.made error
    (λ some. subst (λ text. IsTextFault text error) c.as_str.ensures.value
    (c.in-Err.ensures.fault some)))
