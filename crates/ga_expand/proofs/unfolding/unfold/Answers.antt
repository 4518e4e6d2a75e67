use Rattle.std.proofs.Common.{◌≡◌, ◌≢◌, ◌<◌, ◌∙◌, ◌∷◌, [], Err, ap, length, rules, arith, true}
use Rattle.std.specs.List.{list_all}
use Rattle.ga_expand.specs.declared.error.ExpandErrorKind.TheVariants.{Memory}
use Rattle.ga_expand.specs.Bodies.{unfolded}
use Rattle.ga_expand.specs.Error.{fault_of}
use Rattle.ga_expand.specs.inner.Bodies.{state_of}
use Rattle.ga_expand.specs.inner.Making.{is_apart}
use Rattle.ga_expand.specs.inner.Piece.{piece_in}
use Rattle.ga_expand.specs.inner.Pieces.{left_in}
use Rattle.ga_expand.proofs.TokensRead.{all_read, one_failed, one_read}
use Rattle.ga_expand.proofs.Unchanged.{apart_unfolds}
use Rattle.ga_expand.proofs.unfolding.unfold.Goals as goal

pub returns-then-are_apart-clause-ok : goal.returns-then-are_apart-clause-ok
returns-then-are_apart-clause-ok c =
    let all : list_all is_apart (left_in c.args.pieces) ≡ true = search rules in
    apart_unfolds (left_in c.args.pieces) all

pub loop-piece-init : goal.loop-piece-init
loop-piece-init c = search rules

pub loop-piece-smaller : goal.loop-piece-smaller
loop-piece-smaller c =
    let cut : left_in c.loop-piece.left ≡ piece_in c.in-Some.piece ∷ left_in c.in-Some.others =
    search rules in
    let shorter : length (left_in c.in-Some.others) < length (left_in c.loop-piece.left) =
    omega (arith, ap length cut) in
    shorter

pub loop-piece-preserved : goal.loop-piece-preserved
loop-piece-preserved c =
    let cut : left_in c.loop-piece.left ≡ piece_in c.in-Some.piece ∷ left_in c.in-Some.others =
    search rules in
    one_read (unfolded (left_in c.args.pieces)) (state_of c.loop-piece.unfolder)
    (piece_in c.in-Some.piece) (left_in c.loop-piece.left) (left_in c.in-Some.others) cut
    c.loop-piece.invariant (state_of c.take.new.self) c.in_ok-take.ensures

pub returns-in_err-take-clause-err : goal.returns-in_err-take-clause-err
returns-in_err-take-clause-err c =
    let cut : left_in c.loop-piece.left ≡ piece_in c.in-Some.piece ∷ left_in c.in-Some.others =
    search rules in
    let fault : c.in_err-take.field-0.0.kind ≢ Memory
    → unfolded (left_in c.args.pieces) ≡ Err (fault_of c.in_err-take.field-0.0) =
    λ some. one_failed (unfolded (left_in c.args.pieces)) (state_of c.loop-piece.unfolder)
    (piece_in c.in-Some.piece) (left_in c.loop-piece.left) (left_in c.in-Some.others) cut
    c.loop-piece.invariant (fault_of c.in_err-take.field-0.0) (c.in_err-take.ensures some) in
    search (rules, fault)

pub returns-in_err-finish-clause-err : goal.returns-in_err-finish-clause-err
returns-in_err-finish-clause-err c =
    let none : left_in c.loop-piece.left ≡ [] = search rules in
    let fault : c.in_err-finish.field-0.0.kind ≢ Memory
    → unfolded (left_in c.args.pieces) ≡ Err (fault_of c.in_err-finish.field-0.0) =
    λ some. all_read (unfolded (left_in c.args.pieces)) (state_of c.loop-piece.unfolder)
    (left_in c.loop-piece.left) none c.loop-piece.invariant ∙ c.in_err-finish.ensures.err some in
    search (rules, fault)

pub returns-clause-ok : goal.returns-clause-ok
returns-clause-ok c =
    let none : left_in c.loop-piece.left ≡ [] = search rules in
    all_read (unfolded (left_in c.args.pieces)) (state_of c.loop-piece.unfolder)
    (left_in c.loop-piece.left) none c.loop-piece.invariant ∙ c.in_ok-finish.ensures.ok
