use Rattle.std.proofs.Common.{◌≡◌, None, Option, Some, refl}
use Rattle.ga_race.specs.declared.found.MultiportTake.{MultiportTake}
use Rattle.ga_race.proofs.race_watch.no_takes.Goals as goal

-- what no take is a copy of is none
only_none : (IsCopy : Option MultiportTake → Type 0)
    → ((take : MultiportTake) → IsCopy (Some take) → ⊥) → (take : Option MultiportTake)
    → IsCopy take → take ≡ None
only_none IsCopy never None is = refl
only_none IsCopy never (Some take) is = absurd (never take is)

pub returns : goal.returns
returns c = c.in_ok-takes.ensures.items_if_clones_equal (only_none _ (λ take is. is))
