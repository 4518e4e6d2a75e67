use Rattle.std.proofs.Common.{◌≡◌, take}
use Rattle.ga_chip.proofs.chip.copied_parts.Given as goal

-- as many parts are copied
abbrev pub invariant-loop-part : goal.invariant-loop-part
invariant-loop-part l = l.copies.items ≡ take l.part-index l.parts
