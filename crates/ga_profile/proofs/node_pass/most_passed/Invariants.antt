use Rattle.std.proofs.Common.{◌≡◌}
use Rattle.ga_profile.specs.NodePass.{most_of}
use Rattle.ga_profile.specs.inner.PlaceRead.{place_read}
use Rattle.ga_profile.proofs.node_pass.most_passed.Given as goal

-- the most of as many places
abbrev pub invariant-loop-place : goal.invariant-loop-place
invariant-loop-place l = l.most ≡ most_of (place_read l.places l.index) l.place
