use Rattle.std.proofs.Common.{◌≡◌, ◌++◌, [], codes, drop, string_bytes}
use denote.Text.{Utf8}
use denote.Shadow.{shadow}
use Rattle.ga_place.specs.Side.{SIDES}
use Rattle.ga_waits.specs.Sides.{joined, told_end}
use Rattle.ga_waits.proofs.sides.push_told_ends.Given as goal

-- what is written, and the sides that are left
abbrev pub invariant-loop-side : goal.invariant-loop-side
invariant-loop-side l = shadow (Utf8 l.between)
    × (string_bytes l.text ++ joined (told_end l.chip l.node) l.between (codes " and ") l.sides
    (drop l.side-index l.side-items)
    ≡ string_bytes l.initial.text
    ++ joined (told_end l.chip l.node) [] (codes " and ") l.sides SIDES)
