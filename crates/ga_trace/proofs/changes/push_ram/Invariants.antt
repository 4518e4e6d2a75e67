use Rattle.std.proofs.Common.{◌≡◌, ◌++◌, string_bytes}
use Rattle.std.specs.List.{flat_map, range_with_len}
use Rattle.ga_trace.specs.Line.{ram_change}
use Rattle.ga_trace.proofs.changes.push_ram.Given as goal

-- as many words are written
abbrev pub invariant-loop-index : goal.invariant-loop-index
invariant-loop-index l =
    string_bytes l.text
    ≡ string_bytes l.initial.text ++ flat_map (ram_change l.old l.new) (range_with_len 0 l.index)
