use Rattle.std.proofs.Common.{◌≡◌, ◌≢◌, ◌<◌, ◌∙◌, ◌∷◌, [], Err, Ok, ap, length, rules, arith, false}
use Rattle.ga_expand.specs.declared.error.ExpandErrorKind.TheVariants.{Memory}
use Rattle.ga_expand.specs.Error.{fault_of}
use Rattle.ga_expand.specs.NodeLists as model
use Rattle.ga_expand.specs.inner.Making.{has_list}
use Rattle.ga_expand.specs.inner.NodeLists.{spreading_of}
use Rattle.ga_expand.specs.inner.Piece.{piece_in}
use Rattle.ga_expand.specs.inner.Pieces.{left_in}
use Rattle.ga_expand.proofs.Copies.{all_spread, one_refused, one_spread}
use Rattle.ga_expand.proofs.Unchanged.{listless_spreads}
use Rattle.ga_expand.proofs.node_lists.spread.Goals as goal

pub returns-then-not-has_list-clause-ok : goal.returns-then-not-has_list-clause-ok
returns-then-not-has_list-clause-ok c =
    let none : has_list false (left_in c.args.pieces) ≡ false = search rules in
    listless_spreads (left_in c.args.pieces) none

pub loop-piece-init : goal.loop-piece-init
loop-piece-init c = search rules

pub loop-piece-smaller : goal.loop-piece-smaller
loop-piece-smaller c =
    let cut : left_in c.loop-piece.left ≡ piece_in c.in-Some.piece ∷ left_in c.in-Some.others =
    search rules in
    let shorter : length (left_in c.in-Some.others) < length (left_in c.loop-piece.left) =
    omega (arith, ap length cut) in
    shorter

pub loop-piece-preserved : goal.loop-piece-preserved
loop-piece-preserved c =
    let cut : left_in c.loop-piece.left ≡ piece_in c.in-Some.piece ∷ left_in c.in-Some.others =
    search rules in
    one_spread (model.spread (Ok (left_in c.args.pieces))) (spreading_of c.loop-piece.spreader)
    (piece_in c.in-Some.piece) (left_in c.loop-piece.left) (left_in c.in-Some.others) cut
    c.loop-piece.invariant (spreading_of c.take.new.self) c.in_ok-take.ensures

pub returns-in_err-take-clause-err : goal.returns-in_err-take-clause-err
returns-in_err-take-clause-err c =
    let cut : left_in c.loop-piece.left ≡ piece_in c.in-Some.piece ∷ left_in c.in-Some.others =
    search rules in
    let all = model.spread (Ok (left_in c.args.pieces)) in
    let fault : c.in_err-take.field-0.0.kind ≢ Memory
    → all ≡ Err (fault_of c.in_err-take.field-0.0) =
    λ some. one_refused all (spreading_of c.loop-piece.spreader) (piece_in c.in-Some.piece)
    (left_in c.loop-piece.left) (left_in c.in-Some.others) cut c.loop-piece.invariant
    (fault_of c.in_err-take.field-0.0) (c.in_err-take.ensures some) in
    search (rules, fault)

pub returns-in_err-finish-clause-err : goal.returns-in_err-finish-clause-err
returns-in_err-finish-clause-err c =
    let none : left_in c.loop-piece.left ≡ [] = search rules in
    let all = model.spread (Ok (left_in c.args.pieces)) in
    let fault : c.in_err-finish.field-0.0.kind ≢ Memory
    → all ≡ Err (fault_of c.in_err-finish.field-0.0) =
    λ some. all_spread all (spreading_of c.loop-piece.spreader) (left_in c.loop-piece.left) none
    c.loop-piece.invariant ∙ c.in_err-finish.ensures.err some in
    search (rules, fault)

pub returns-clause-ok : goal.returns-clause-ok
returns-clause-ok c =
    let none : left_in c.loop-piece.left ≡ [] = search rules in
    all_spread (model.spread (Ok (left_in c.args.pieces))) (spreading_of c.loop-piece.spreader)
    (left_in c.loop-piece.left) none c.loop-piece.invariant ∙ c.in_ok-finish.ensures.ok
