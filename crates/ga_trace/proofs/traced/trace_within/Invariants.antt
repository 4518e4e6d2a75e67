use Rattle.std.proofs.Common.{◌≡◌, ◌-◌, ◌≤◌, string_bytes}
use Rattle.ga_waits.specs.Label.{images_in}
use Rattle.ga_trace.specs.Traced.{traced_from}
use Rattle.ga_trace.proofs.Tracing.{behind}
use Rattle.ga_trace.proofs.traced.trace_within.Given as goal

-- the text with that of the turns that are left is the whole
abbrev pub invariant-loop-number : goal.invariant-loop-number
invariant-loop-number l = record {
  told : behind (string_bytes l.text) (traced_from (images_in l.images) l.node (l.most - l.number)
      l.number l.quiet l.left l.chip)
      ≡ traced_from (images_in l.images) l.node l.most 0 0 l.steps l.initial.chip;
  quiet : l.quiet ≤ 4;
}
