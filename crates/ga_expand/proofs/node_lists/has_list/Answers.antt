use Rattle.std.proofs.Common.{◌≡◌, ◌<◌, ◌∙◌, ◌∷◌, [], ap, length, rules, arith, sym}
use Rattle.ga_expand.specs.inner.Making.{has_list}
use Rattle.ga_expand.specs.inner.Piece.{piece_in}
use Rattle.ga_expand.specs.inner.Pieces.{left_in}
use Rattle.ga_expand.proofs.node_lists.has_list.Goals as goal

pub loop-piece-init : goal.loop-piece-init
loop-piece-init c = search rules

pub returns-then-is_list : goal.returns-then-is_list
returns-then-is_list c =
    let cut : left_in c.loop-piece.left ≡ piece_in c.in-Some.piece ∷ left_in c.in-Some.others =
    search rules in
    search (rules, cut, sym c.loop-piece.invariant ∙ ap (has_list c.loop-piece.behind) cut)

pub loop-piece-smaller : goal.loop-piece-smaller
loop-piece-smaller c =
    let cut : left_in c.loop-piece.left ≡ piece_in c.in-Some.piece ∷ left_in c.in-Some.others =
    search rules in
    let shorter : length (left_in c.in-Some.others) < length (left_in c.loop-piece.left) =
    omega (arith, ap length cut) in
    shorter

pub loop-piece-preserved : goal.loop-piece-preserved
loop-piece-preserved c =
    let cut : left_in c.loop-piece.left ≡ piece_in c.in-Some.piece ∷ left_in c.in-Some.others =
    search rules in
    search (rules, cut, sym c.loop-piece.invariant ∙ ap (has_list c.loop-piece.behind) cut)

pub returns : goal.returns
returns c =
    let none : left_in c.loop-piece.left ≡ [] = search rules in
    ap (has_list c.loop-piece.behind) (sym none) ∙ c.loop-piece.invariant
