use Rattle.std.proofs.Common.{◌≡◌, ◌++◌, drop, string_bytes}
use Rattle.std.specs.List.{flat_map}
use Rattle.ga_place.specs.Side.{SIDES}
use Rattle.ga_debug.specs.Sides.{side_lines}
use Rattle.ga_debug.proofs.sides.sides_text.Given as goal

-- what is written, and the sides that are left
abbrev pub invariant-loop-side : goal.invariant-loop-side
invariant-loop-side l =
    string_bytes l.text ++ flat_map (side_lines l.chip l.node) (drop l.side-index l.side-items)
    ≡ flat_map (side_lines l.chip l.node) SIDES
