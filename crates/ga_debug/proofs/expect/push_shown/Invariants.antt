use Rattle.std.proofs.Common.{◌≡◌, ◌++◌, drop, string_bytes}
use Rattle.ga_debug.specs.Expect.{shown_text}
use Rattle.ga_debug.proofs.expect.push_shown.Given as goal

-- what is written, and the values that are left
abbrev pub invariant-loop-value : goal.invariant-loop-value
invariant-loop-value l =
    string_bytes l.text ++ shown_text l.node l.what (drop l.value-index l.values) l.chip
    ≡ string_bytes l.initial.text ++ shown_text l.node l.initial.what l.values l.chip
