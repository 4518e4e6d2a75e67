-- The passes of a node in a list of all.
use Rattle.std.specs.Prelude.{ℕ, ◌+◌, ◌*◌, List, get_or}
use Rattle.ga_profile.specs.declared.passes.Passes.{Passes}
use Rattle.ga_profile.specs.Passes.{NO_PASSES}

-- those through a place of the node with an index
abbrev pub place_read : List Passes → ℕ → ℕ → Passes
place_read places index place = get_or places (index * 256 + place) NO_PASSES
