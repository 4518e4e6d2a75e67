use Rattle.std.proofs.Common.{◌≡◌, ◌++◌, string_bytes}
use Rattle.std.specs.List.{flat_map, range_with_len}
use Rattle.ga_report.specs.Scale.{tick_at}
use Rattle.ga_report.proofs.scale.push_ticks.Given as goal

-- as many turns are written
abbrev pub invariant-loop-quarters : goal.invariant-loop-quarters
invariant-loop-quarters l =
    string_bytes l.text
    ≡ string_bytes l.initial.text ++ flat_map (tick_at l.window) (range_with_len 0 l.quarters)
