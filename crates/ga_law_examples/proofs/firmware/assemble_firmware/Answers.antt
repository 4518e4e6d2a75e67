use Rattle.ga_law_examples.proofs.Assembled.{is_firmware}
use Rattle.ga_law_examples.proofs.firmware.assemble_firmware.Goals as goal

pub returns : goal.returns
returns c = is_firmware c.in-Ok.images c.assemble_text.ensures.only c.in-Ok.ensures.images
