use Rattle.std.proofs.Common.{map, take}
use Rattle.ga_faults.specs.Faults.{AreFirstFaults}
use Rattle.ga_faults.specs.Sections.{part_in}
use Rattle.ga_faults.proofs.listing.part_faults.Given as goal

-- those of the parts so far
abbrev pub invariant-loop-section : goal.invariant-loop-section
invariant-loop-section l =
    let part = part_in (map (λ line. line.now) l.lines.items) l.head in
    AreFirstFaults (take l.section-index (map part l.section-items)) l.faults.items
