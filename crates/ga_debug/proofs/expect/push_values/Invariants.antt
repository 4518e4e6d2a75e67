use Rattle.std.proofs.Common.{◌≡◌, ◌++◌, drop, string_bytes}
use Rattle.ga_debug.specs.Expect.{values_text}
use Rattle.ga_debug.proofs.expect.push_values.Given as goal

-- what is written, and the values that are left
abbrev pub invariant-loop-value : goal.invariant-loop-value
invariant-loop-value l =
    string_bytes l.text ++ values_text (drop l.value-index l.values)
    ≡ string_bytes l.initial.text ++ values_text l.values
