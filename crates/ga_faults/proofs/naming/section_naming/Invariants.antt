use Rattle.std.proofs.Common.{◌≡◌, drop}
use Rattle.std.specs.List.{find}
use Rattle.ga_faults.specs.Sections.{names_node}
use Rattle.ga_faults.proofs.naming.section_naming.Given as goal

-- none of the sections so far names the node
abbrev pub invariant-loop-section : goal.invariant-loop-section
invariant-loop-section l =
    find (names_node l.text l.node) (drop l.section-index l.sections)
    ≡ find (names_node l.text l.node) l.sections
