-- How many multiport reads took a word.
use Rattle.std.specs.Prelude.{ℕ, Bool, false, List, is_none, length}
use Rattle.std.specs.List.{filter}
use Rattle.ga_place.specs.Side.{one_side}
use Rattle.ga_observe.specs.declared.step.Deed.{Deed}
use Rattle.ga_observe.specs.declared.step.Deed.TheVariants as did
use Rattle.ga_observe.specs.declared.step.Step.{Step}

-- by a step a node takes a word at one of several sides
abbrev pub is_multiport : Deed → Bool
is_multiport (did.Took side sides word) = is_none (one_side sides)
is_multiport did.Own = false
is_multiport (did.Posted side word) = false
is_multiport (did.SawRead side) = false
is_multiport (did.TookInput word) = false

-- how many of some steps are such takes
abbrev pub multiport_takes : List Step → ℕ
multiport_takes steps = length (filter (λ (step : Step). is_multiport step.deed) steps)
