-- A run with one more try behind it.
use Rattle.std.proofs.Common.{◌≡◌, [], ◌∷◌, ◌++◌, List, Some, ap}
use Rattle.ga_chip.specs.declared.outcome.Try.{Try}
use Rattle.ga_chip.specs.Part.{Part, after, asks}
use Rattle.ga_chip.specs.Chip.{Chip, found_by, part_of, tried, tried_at, tried_by}
use Rattle.ga_chip.specs.Run as event
use Rattle.ga_chip.specs.Run.{happened, ran, tries_of}
use Rattle.ga_chip.proofs.Runs.{ran_more}

-- the chip after a try of a node whose part is known
pub happened_at : (chip : Chip) (what : Try) (part : Part) → part_of chip what.node ≡ Some part
    → happened chip (event.Try what.node what.side) ≡ (tried_by chip what.node (asks part what.side)
    (after part what.side (found_by (asks part what.side) chip.cells))).1
unfolding happened tried
happened_at chip what part there = ap (λ o. (tried_at o chip what.node what.side).1) there

pub ran_push : (opening : Chip) (tries : List Try) (what : Try)
    → ran opening (tries_of (tries ++ what ∷ []))
    ≡ happened (ran opening (tries_of tries)) (event.Try what.node what.side)
ran_push opening tries what = ran_more opening tries (what ∷ [])
