use Rattle.std.proofs.Common.{◌≡◌, drop}
use Rattle.ga_list.specs.Lines.{line_from}
use Rattle.ga_list.proofs.lines.line_of.Given as goal

-- no image so far is the node's
abbrev pub invariant-loop-section : goal.invariant-loop-section
invariant-loop-section l =
    line_from l.program l.section (drop l.section l.images.entries) l.node l.address
    ≡ line_from l.program 0 l.images.entries l.node l.address
