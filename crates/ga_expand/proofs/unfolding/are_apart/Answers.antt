use Rattle.std.proofs.Common.{◌≡◌, ◌<◌, ◌∙◌, ◌∷◌, [], ap, length, rules, arith, sym}
use Rattle.std.specs.List.{list_all}
use Rattle.ga_expand.specs.inner.Making.{is_apart}
use Rattle.ga_expand.specs.inner.Piece.{piece_in}
use Rattle.ga_expand.specs.inner.Pieces.{left_in}
use Rattle.ga_expand.proofs.unfolding.are_apart.Goals as goal

pub loop-piece-init : goal.loop-piece-init
loop-piece-init c = search rules

pub returns-then-eq : goal.returns-then-eq
returns-then-eq c =
    let cut : left_in c.loop-piece.left ≡ piece_in c.in-Some.piece ∷ left_in c.in-Some.others =
    search rules in
    search (rules, cut, sym c.loop-piece.invariant ∙ ap (list_all is_apart) cut)

pub loop-piece-smaller : goal.loop-piece-smaller
loop-piece-smaller c =
    let cut : left_in c.loop-piece.left ≡ piece_in c.in-Some.piece ∷ left_in c.in-Some.others =
    search rules in
    let shorter : length (left_in c.in-Some.others) < length (left_in c.loop-piece.left) =
    omega (arith, ap length cut) in
    shorter

pub loop-piece-preserved : goal.loop-piece-preserved
loop-piece-preserved c =
    let cut : left_in c.loop-piece.left ≡ piece_in c.in-Some.piece ∷ left_in c.in-Some.others =
    search rules in
    search (rules, cut, sym c.loop-piece.invariant ∙ ap (list_all is_apart) cut)

pub returns : goal.returns
returns c =
    let none : left_in c.loop-piece.left ≡ [] = search rules in
    ap (list_all is_apart) (sym none) ∙ c.loop-piece.invariant
