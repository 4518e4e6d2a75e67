use Rattle.std.proofs.Common.{◌≡◌, ◌++◌, map, string_bytes}
use Rattle.std.specs.List.{flat_map, range_with_len}
use Rattle.ga_place.specs.Cell.{name_at}
use Rattle.ga_waits.specs.Ring.{ring_at, ring_line}
use Rattle.ga_waits.specs.inner.Next.{next_in}
use Rattle.ga_waits.specs.Waits.{text_of}
use Rattle.ga_waits.proofs.text.push_rings.Given as goal

-- the lines of the rings that begin at as many nodes are written
abbrev pub invariant-loop-index : goal.invariant-loop-index
invariant-loop-index l =
    string_bytes l.text
    ≡ string_bytes l.initial.text
    ++ text_of (flat_map (λ index. map ring_line (ring_at (next_in l.nexts) (name_at index)))
    (range_with_len 0 l.index))
