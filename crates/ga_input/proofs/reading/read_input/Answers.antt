use Rattle.std.proofs.Common.{◌++◌, arith, take}
use Rattle.std.proofs.lemmas.Grind.{common_steps}
use Rattle.std.proofs.KnownBytes.{Consumes-trans}
use Rattle.ga_input.proofs.reading.read_input.Goals as goal

-- the bytes of a read that could not be stored were taken too
pub returns-in_err-extend_from_slice-in-Ok-clause-no_more :
    goal.returns-in_err-extend_from_slice-in-Ok-clause-no_more
returns-in_err-extend_from_slice-in-Ok-clause-no_more g c = (
  c.loop.input.items ++ take c.in-Ok.count c.read.new.buffer,
  Consumes-trans _ _ _ _ _ c.loop.invariant.consumed c.in-Ok.ensures.bytes.0,
  grind (arith, common_steps),
)
