use Rattle.std.proofs.Common.{◌≡◌, ◌++◌, drop, string_bytes}
use Rattle.std.specs.List.{flat_map}
use Rattle.ga_wave.specs.Header.{declaration}
use Rattle.ga_wave.specs.Signal.{SIGNALS}
use Rattle.ga_wave.proofs.header.push_declarations.Given as goal

-- what is written, and the declarations of the signals that are left
abbrev pub invariant-loop-signal : goal.invariant-loop-signal
invariant-loop-signal l =
    string_bytes l.text
    ++ flat_map (declaration l.node l.number)
    (drop l.signal-index l.signal-items)
    ≡ string_bytes l.initial.text
    ++ flat_map (declaration l.node l.number) SIGNALS
