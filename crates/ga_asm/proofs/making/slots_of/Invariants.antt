use Rattle.std.proofs.Common.{◌≡◌, take}
use Rattle.ga_asm.proofs.making.slots_of.Given as goal

abbrev pub invariant-loop-op : goal.invariant-loop-op
invariant-loop-op l = l.slots.items ≡ take l.op-index l.ops
