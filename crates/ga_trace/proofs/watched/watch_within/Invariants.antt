use Rattle.std.proofs.Common.{◌≡◌, ◌-◌, ◌≤◌, [], string_bytes}
use Rattle.ga_waits.specs.Label.{images_in}
use Rattle.ga_trace.specs.Watched.{watched_from}
use Rattle.ga_trace.specs.What.{value_of}
use Rattle.ga_trace.proofs.watched.watch_within.Given as goal

-- the text of the turns that are left is the whole
abbrev pub invariant-loop-number : goal.invariant-loop-number
invariant-loop-number l = record {
  told : watched_from (images_in l.images) l.node l.what l.goal (l.most - l.number) l.number
      l.quiet l.chip
      ≡ watched_from (images_in l.images) l.node l.what l.goal l.most 0 0 l.initial.chip;
  nothing : string_bytes l.text ≡ [];
  old : l.old ≡ value_of l.what l.node l.chip;
  quiet : l.quiet ≤ 4;
}
