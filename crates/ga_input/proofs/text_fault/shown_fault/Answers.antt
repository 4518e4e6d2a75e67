use Rattle.std.proofs.Common.{refl}
use Rattle.ga_input.proofs.text_fault.shown_fault.Goals as goal

pub returns-in-Memory : goal.returns-in-Memory
returns-in-Memory c = rw (c.in-Memory.is) refl
