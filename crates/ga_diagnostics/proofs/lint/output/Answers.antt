use Rattle.std.proofs.Common.{string_bytes, subst}
use Rattle.std.specs.Prelude.{option_map}
use Rattle.ga_input.specs.Fault.{Answers}
use Rattle.ga_diagnostics.specs.Lines.{origins_in}
use Rattle.ga_diagnostics.specs.LintJob.{IsLintOutput, file_name}
use Rattle.ga_diagnostics.proofs.lint.output.Goals as goal

pub returns : goal.returns
returns c =
    let name = file_name (option_map string_bytes c.args.file.now) in
    subst (λ form. Answers string_bytes (IsLintOutput (origins_in name) form c.args.input.now)
    c.warnings.result) c.form_of.ensures
    (subst (λ name. Answers string_bytes (IsLintOutput (origins_in name) c.form_of.result
    c.args.input.now) c.warnings.result) c.file_name.ensures c.warnings.ensures)
