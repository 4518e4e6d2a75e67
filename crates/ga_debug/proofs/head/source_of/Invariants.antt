use Rattle.std.proofs.Common.{◌≡◌, ◌+◌, ◌<◌, ◌^◌, length, string_bytes}
use Rattle.ga_debug.specs.Head.{Loading, up_to_go}
use Rattle.ga_debug.proofs.Sources.{in_front}
use Rattle.ga_debug.proofs.head.source_of.Given as goal

-- the head is that of the lines that are left, with the source so far before them
abbrev pub invariant-loop-line : goal.invariant-loop-line
invariant-loop-line l =
    ((loading : Loading) → in_front (string_bytes l.source) (up_to_go loading l.number l.lines)
    ≡ up_to_go loading 3 l.fn.lines)
    × (l.number + 1 + length l.lines < 2 ^ 64)

-- the lines that are left
abbrev pub decreases-loop-line : goal.decreases-loop-line
decreases-loop-line l = length l.lines
