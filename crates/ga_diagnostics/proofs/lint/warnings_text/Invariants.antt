use Rattle.std.proofs.Common.{◌≡◌, ◌++◌, drop, string_bytes}
use Rattle.std.specs.List.{flat_map}
use Rattle.ga_diagnostics.specs.Lines.{origins_of}
use Rattle.ga_diagnostics.specs.LintJob.{warning_text}
use Rattle.ga_diagnostics.proofs.lint.warnings_text.Given as goal

-- what is written, and the messages of the warnings that are left
abbrev pub invariant-loop-warning : goal.invariant-loop-warning
invariant-loop-warning l =
    let message = warning_text (origins_of l.lines) l.form l.text l.made in
    string_bytes l.shown ++ flat_map message (drop l.warning-index l.warnings)
    ≡ flat_map message l.warnings
