use Rattle.ga_asm.proofs.Sections.{Ongoing}
use Rattle.ga_asm.proofs.assembling.assemble.Given as goal

abbrev pub invariant-loop-node : goal.invariant-loop-node
invariant-loop-node l = Ongoing l.program l.images.entries l.node-iterator
