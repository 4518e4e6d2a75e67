use Rattle.std.proofs.Common.{◌≡◌, ◌*◌, length}
use Rattle.std.specs.List.{flat_map, range_with_len}
use Rattle.ga_trace.specs.Spinning.{Watches}
use Rattle.ga_profile.specs.HasRun.{HasRun}
use Rattle.ga_report.specs.Columns.{bound}
use Rattle.ga_report.specs.Timeline.{column_in, up_to}
use Rattle.ga_report.proofs.timeline.timeline_of_part.Given as goal

-- the kinds of as many columns are added, and the run has come to their end
abbrev pub invariant-loop-column : goal.invariant-loop-column
invariant-loop-column l = record {
  known : Watches l.now l.watch.spins;
  run : HasRun 0 l.chip (bound l.window l.column) l.now l.watch;
  before : l.before.items ≡ up_to (bound l.window l.column) l.chip;
  all : length l.before.items ≡ 144;
  kinds : l.kinds.items ≡ flat_map (column_in l.window l.chip) (range_with_len 0 l.column);
  count : length l.kinds.items ≡ l.column * 144;
}
