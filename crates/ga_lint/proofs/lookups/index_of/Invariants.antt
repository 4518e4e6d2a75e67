use Rattle.std.proofs.Common.{◌≡◌, drop, map}
use Rattle.std.specs.List.{position_from}
use Rattle.ga_lint.specs.NodeView.{is_at}
use Rattle.ga_source.specs.Token.{place_of}
use Rattle.ga_lint.proofs.lookups.index_of.Given as goal

-- no item so far is there
abbrev pub invariant-loop-index : goal.invariant-loop-index
invariant-loop-index l =
    position_from (is_at (place_of l.place)) l.index
    (map (λ found. place_of found.place) (drop l.index l.places))
    ≡ position_from (is_at (place_of l.place)) 0 (map (λ found. place_of found.place) l.places)
