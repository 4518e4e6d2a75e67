use Rattle.std.proofs.Common.{◌≡◌, ◌++◌, string_bytes}
use Rattle.std.specs.List.{flat_map, range_with_len}
use Rattle.ga_place.specs.Cell.{name_at}
use Rattle.ga_report.specs.Words.{node_words}
use Rattle.ga_report.proofs.words.push_all_words.Given as goal

-- the words of as many nodes are written
abbrev pub invariant-loop-index : goal.invariant-loop-index
invariant-loop-index l =
    string_bytes l.text
    ≡ string_bytes l.initial.text
    ++ flat_map (λ index. node_words l.chip (name_at index)) (range_with_len 0 l.index)
