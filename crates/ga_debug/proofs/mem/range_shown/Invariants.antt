use Rattle.std.proofs.Common.{◌≡◌, string_bytes}
use Rattle.std.specs.List.{flat_map, range_with_len}
use Rattle.ga_debug.specs.Mem.{word_shown}
use Rattle.ga_debug.proofs.mem.range_shown.Given as goal

-- as many words are written
abbrev pub invariant-loop-index : goal.invariant-loop-index
invariant-loop-index l =
    string_bytes l.text ≡ flat_map (word_shown l.ram l.from) (range_with_len 0 l.index)
