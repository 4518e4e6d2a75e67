use Rattle.std.proofs.Common.{◌≡◌, fold, take}
use Rattle.ga_nearest.specs.Nearest.{nothing_near}
use Rattle.ga_hints.specs.Nearest.{nearer_name}
use Rattle.ga_hints.proofs.nearest.nearest_by_edits.Given as goal

-- the nearest of the names so far
abbrev pub invariant-loop-name : goal.invariant-loop-name
invariant-loop-name l =
    l.nearest ≡ fold (λ found name. nearer_name found name.now) (nothing_near l.word)
    (take l.name-index l.names)
