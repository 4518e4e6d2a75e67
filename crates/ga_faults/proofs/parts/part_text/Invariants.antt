use Rattle.std.proofs.Common.{◌≡◌, ◌+◌, ◌++◌, drop, map}
use Rattle.ga_faults.specs.Sections.{kept_lines}
use Rattle.ga_faults.proofs.parts.part_text.Given as goal

-- the lines so far, and those that are left
abbrev pub invariant-loop-index : goal.invariant-loop-index
invariant-loop-index l =
    let lines = map (λ line. line.now) l.own in
    map (λ line. line.now) l.kept.items
    ++ kept_lines l.head l.section.first (l.index + 1) (drop l.index lines)
    ≡ kept_lines l.head l.section.first 1 lines
