use Rattle.std.proofs.Common.{◌≡◌}
use Rattle.ga_asm.specs.Image.{labels_of}
use Rattle.ga_debug.specs.Hint.{nearest_from}
use Rattle.ga_nearest.specs.Nearest.{nothing_near}
use Rattle.ga_debug.proofs.hint.nearest_of.Given as goal

-- the nearest one is the one found, or among those that are left
abbrev pub invariant-loop-label : goal.invariant-loop-label
invariant-loop-label l =
    nearest_from l.nearest (labels_of l.label-iterator)
    ≡ nearest_from (nothing_near l.word) (labels_of l.labels.entries)
