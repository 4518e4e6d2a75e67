use Rattle.std.proofs.Common.{◌≡◌, ◌-◌, string_bytes}
use Rattle.ga_waits.specs.Label.{images_in}
use Rattle.ga_trace.specs.Stepped.{stepped}
use Rattle.ga_trace.proofs.Tracing.{behind}
use Rattle.ga_trace.proofs.stepped.step.Given as goal

-- the text with that of the steps that are left is the whole
abbrev pub invariant-loop-done : goal.invariant-loop-done
invariant-loop-done l =
    behind (string_bytes l.text) (stepped (images_in l.images) l.node (l.count - l.done) l.chip)
    ≡ stepped (images_in l.images) l.node l.count l.initial.chip
