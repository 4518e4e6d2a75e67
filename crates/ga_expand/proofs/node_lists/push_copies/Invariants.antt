use Rattle.std.proofs.Common.{◌≡◌, ◌∷◌, ◌++◌, take}
use Rattle.std.specs.List.{flat_map}
use Rattle.ga_expand.proofs.node_lists.push_copies.Given as goal

abbrev pub invariant-loop-name : goal.invariant-loop-name
invariant-loop-name l =
    l.pieces.items ≡ l.initial.pieces.items
    ++ flat_map (λ name. l.node ∷ name ∷ l.tokens) (take l.name-index l.names)
