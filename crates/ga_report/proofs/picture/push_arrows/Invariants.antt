use Rattle.std.proofs.Common.{◌≡◌, ◌++◌, drop, string_bytes}
use Rattle.std.specs.List.{flat_map}
use Rattle.ga_place.specs.Side.{SIDES}
use Rattle.ga_report.specs.Picture.{side_arrow}
use Rattle.ga_report.proofs.picture.push_arrows.Given as goal

-- what is written, and the arrows of the sides that are left
abbrev pub invariant-loop-side : goal.invariant-loop-side
invariant-loop-side l =
    string_bytes l.text ++ flat_map (side_arrow l.chip l.node) (drop l.side-index l.side-items)
    ≡ string_bytes l.initial.text ++ flat_map (side_arrow l.chip l.node) SIDES
