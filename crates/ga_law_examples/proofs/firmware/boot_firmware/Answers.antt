use Rattle.std.proofs.Common.{◌∙◌, ap₂}
use Rattle.ga_debug.specs.Beginning.{booted_tree}
use Rattle.ga_law_examples.proofs.firmware.boot_firmware.Goals as goal

pub returns : goal.returns
returns c = c.in-Ok.ensures.chip ∙ ap₂ booted_tree c.in_ok-images.ensures c.in_ok-tree.ensures
