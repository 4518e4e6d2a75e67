use Rattle.std.proofs.Common.{◌≡◌, ◌++◌, drop, string_bytes}
use Rattle.ga_waits.specs.Label.{images_in}
use Rattle.ga_wave.specs.inner.Traced.{traced_changes}
use Rattle.ga_wave.proofs.wave.push_all.Given as goal

-- what is written, and the changes of the nodes that are left
abbrev pub invariant-loop-one : goal.invariant-loop-one
invariant-loop-one l =
    string_bytes l.text
    ++ traced_changes (images_in l.images) l.side l.chip (drop l.one-index l.traced)
    ≡ string_bytes l.initial.text ++ traced_changes (images_in l.images) l.side l.chip l.traced
