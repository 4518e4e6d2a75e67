use Rattle.std.proofs.Common.{◌≡◌, ◌++◌, [], codes, drop, string_bytes}
use denote.Text.{Utf8}
use denote.Shadow.{shadow}
use Rattle.ga_place.specs.Side.{SIDES}
use Rattle.ga_waits.specs.Sides.{end_text, joined}
use Rattle.ga_waits.proofs.sides.push_ends.Given as goal

-- what is written, and the sides that are left
abbrev pub invariant-loop-side : goal.invariant-loop-side
invariant-loop-side l = shadow (Utf8 l.between)
    × (string_bytes l.text
    ++ joined (end_text l.node) l.between (codes "/") l.sides (drop l.side-index l.side-items)
    ≡ string_bytes l.initial.text ++ joined (end_text l.node) [] (codes "/") l.sides SIDES)
