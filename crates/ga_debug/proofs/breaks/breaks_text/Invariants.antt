use Rattle.std.proofs.Common.{◌≡◌, string_bytes}
use Rattle.std.specs.List.{flat_map, range_with_len}
use Rattle.ga_place.specs.Cell.{name_at}
use Rattle.ga_waits.specs.Label.{images_in}
use Rattle.ga_debug.specs.Breaks.{node_breaks}
use Rattle.ga_debug.proofs.breaks.breaks_text.Given as goal

abbrev pub invariant-loop-index : goal.invariant-loop-index
invariant-loop-index l =
    string_bytes l.text ≡ flat_map
    (λ index. node_breaks (images_in l.images) l.chip (name_at index)) (range_with_len 0 l.index)
