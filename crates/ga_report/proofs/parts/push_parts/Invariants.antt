use Rattle.std.proofs.Common.{◌≡◌, ◌++◌, drop, string_bytes}
use Rattle.ga_report.specs.inner.Parts.{parts_text}
use Rattle.ga_report.proofs.parts.push_parts.Given as goal

-- what is written, and the texts that are left
abbrev pub invariant-loop-part : goal.invariant-loop-part
invariant-loop-part l =
    string_bytes l.text ++ parts_text (drop l.part-index l.parts)
    ≡ string_bytes l.initial.text ++ parts_text l.parts
