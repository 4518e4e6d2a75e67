use Rattle.std.proofs.Common.{◌≡◌, ◌++◌, drop, string_bytes}
use Rattle.ga_wave.specs.inner.Traced.{scopes_of}
use Rattle.ga_wave.proofs.wave.push_scopes.Given as goal

-- what is written, and the scopes of the nodes that are left
abbrev pub invariant-loop-one : goal.invariant-loop-one
invariant-loop-one l =
    string_bytes l.text ++ scopes_of (drop l.one-index l.traced)
    ≡ string_bytes l.initial.text ++ scopes_of l.traced
