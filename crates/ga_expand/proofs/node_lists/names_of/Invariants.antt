use Rattle.std.proofs.Common.{◌≡◌, map, take}
use Rattle.ga_source.specs.Token.{place_of}
use Rattle.ga_expand.specs.NodeLists.{name_at}
use Rattle.ga_expand.specs.inner.Piece.{piece_in}
use Rattle.ga_expand.proofs.node_lists.names_of.Given as goal

abbrev pub invariant-loop-text : goal.invariant-loop-text
invariant-loop-text l =
    map piece_in l.names.items
    ≡ map (λ text. name_at (place_of l.list.place) text.now) (take l.text-index l.text-items)
