use Rattle.std.proofs.Common.{◌≡◌, ◌++◌, string_bytes}
use Rattle.std.specs.List.{flat_map, range_with_len}
use Rattle.ga_place.specs.Cell.{name_at}
use Rattle.ga_waits.specs.Label.{images_in}
use Rattle.ga_waits.specs.Folded.{busy_lines}
use Rattle.ga_waits.specs.Waits.{text_of}
use Rattle.ga_waits.proofs.folded.push_busy.Given as goal

-- the lines of as many nodes are written
abbrev pub invariant-loop-index : goal.invariant-loop-index
invariant-loop-index l =
    string_bytes l.text
    ≡ string_bytes l.initial.text ++ text_of (flat_map (λ index. busy_lines (images_in l.images)
    l.chip (name_at index)) (range_with_len 0 l.index))
