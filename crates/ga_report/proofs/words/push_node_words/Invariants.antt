use Rattle.std.proofs.Common.{◌≡◌, ◌++◌, drop, string_bytes}
use Rattle.std.specs.List.{flat_map}
use Rattle.ga_place.specs.Side.{SIDES}
use Rattle.ga_report.specs.Words.{side_word}
use Rattle.ga_report.proofs.words.push_node_words.Given as goal

-- what is written, and the words at the sides that are left
abbrev pub invariant-loop-side : goal.invariant-loop-side
invariant-loop-side l =
    string_bytes l.text ++ flat_map (side_word l.chip l.node) (drop l.side-index l.side-items)
    ≡ string_bytes l.initial.text ++ flat_map (side_word l.chip l.node) SIDES
