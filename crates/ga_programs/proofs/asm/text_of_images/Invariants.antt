use Rattle.std.proofs.Common.{◌≡◌, ◌++◌}
use Rattle.std.specs.Prelude.{string_bytes}
use Rattle.ga_programs.specs.Asm.{images_text}
use Rattle.ga_programs.proofs.asm.text_of_images.Given as goal

-- what is written, and the text of the images that are left
abbrev pub invariant-loop-node : goal.invariant-loop-node
invariant-loop-node l = string_bytes l.text ++ images_text l.node-iterator ≡ images_text l.images
