use Rattle.std.proofs.Common.{◌≡◌, ◌≤◌, ℕ, List, take}
use Rattle.std.specs.Prelude.{vec_capacity}
use Rattle.std.specs.Io.KnownBytes.{Consumes}
use Rattle.ga_prompt.specs.inner.Typed.{IsClean, has_byte}
use Rattle.ga_prompt.proofs.typed.read_line.Given as goal

-- the bytes of the line that were read, and what is kept of them
abbrev pub invariant-loop-byte : goal.invariant-loop-byte
invariant-loop-byte g l =
    (front : List ℕ)
    × Consumes (g.R.Read.remaining l.initial.reader) (g.R.Read.remaining l.reader) front
    × IsClean front × (l.line.items ≡ take 65537 front)
    × (l.is_there ≡ has_byte front) × (65537 ≤ vec_capacity l.line)
    × (l.reads.left ≤ l.initial.reads.left)

abbrev pub decreases-loop-byte : goal.decreases-loop-byte
decreases-loop-byte g l = l.reads.left
