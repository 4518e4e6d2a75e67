use Rattle.std.proofs.Common.{◌≡◌, ◌++◌, drop, string_bytes}
use Rattle.std.specs.List.{flat_map}
use Rattle.ga_waits.specs.Label.{images_in}
use Rattle.ga_wave.specs.Change.{change}
use Rattle.ga_wave.specs.Signal.{SIGNALS}
use Rattle.ga_wave.proofs.change.push_changes.Given as goal

-- what is written, and the changes of the signals that are left
abbrev pub invariant-loop-signal : goal.invariant-loop-signal
invariant-loop-signal l =
    string_bytes l.text
    ++ flat_map (change (images_in l.images) l.node l.number l.old l.new)
    (drop l.signal-index l.signal-items)
    ≡ string_bytes l.initial.text
    ++ flat_map (change (images_in l.images) l.node l.number l.old l.new) SIGNALS
