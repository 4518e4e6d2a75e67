use Rattle.std.proofs.Common.{◌≡◌, drop}
use Rattle.ga_waits.specs.Label.{images_in}
use Rattle.ga_debug.specs.Command.{NOTHING, all_read}
use Rattle.ga_debug.proofs.command.read_all.Given as goal

-- it rests with the shapes that are left
abbrev pub invariant-loop-shape : goal.invariant-loop-shape
invariant-loop-shape l =
    all_read (images_in l.images) (drop l.shape-index l.shapes) l.given l.words
    ≡ all_read (images_in l.images) l.shapes NOTHING l.initial.words
