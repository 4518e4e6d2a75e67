use Rattle.std.proofs.Common.{◌≡◌, ◌++◌, drop, string_bytes}
use Rattle.std.specs.List.{flat_map}
use Rattle.ga_wave.specs.Save.{SAVED, saved_signal}
use Rattle.ga_wave.proofs.save.push_signals.Given as goal

-- what is written, and the lines of the signals that are left
abbrev pub invariant-loop-signal : goal.invariant-loop-signal
invariant-loop-signal l =
    string_bytes l.text ++ flat_map (saved_signal l.node) (drop l.signal-index l.signal-items)
    ≡ string_bytes l.initial.text ++ flat_map (saved_signal l.node) SAVED
