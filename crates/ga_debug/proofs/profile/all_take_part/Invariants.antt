use Rattle.std.proofs.Common.{◌≡◌, ℕ, ◌<◌, false}
use Rattle.ga_place.specs.Cell.{name_at}
use Rattle.ga_debug.specs.Profile.{is_left_out}
use Rattle.ga_debug.proofs.profile.all_take_part.Given as goal

-- none of those before is stopped
abbrev pub invariant-loop-index : goal.invariant-loop-index
invariant-loop-index l = (index : ℕ) → index < l.index → is_left_out l.chip (name_at index) ≡ false
