use Rattle.std.proofs.Common.{◌≡◌, ◌≢◌, ◌<◌, ◌∷◌, [], Err, ap, length, rules, arith}
use Rattle.ga_expand.specs.declared.error.ExpandErrorKind.TheVariants.{Memory}
use Rattle.ga_expand.specs.Error.{fault_of}
use Rattle.ga_expand.specs.Expanding.{expansion_from, start}
use Rattle.ga_expand.specs.inner.Piece.{piece_in}
use Rattle.ga_expand.specs.inner.Pieces.{left_in}
use Rattle.ga_expand.proofs.Steps.{failed, made_whole, started, taken}
use Rattle.ga_expand.proofs.making.expand_each.Goals as goal

pub loop-piece-init : goal.loop-piece-init
loop-piece-init c =
    started (left_in c.args.pieces) c.new-expander.result c.new-expander.ensures.scope
    c.new-expander.ensures.text c.new-expander.ensures.origins

pub take-requires : goal.take-requires
take-requires c = c.loop-piece.invariant.fresh

pub loop-piece-smaller : goal.loop-piece-smaller
loop-piece-smaller c =
    let cut : left_in c.loop-piece.left ≡ piece_in c.in-Some.piece ∷ left_in c.in-Some.others =
    search rules in
    let shorter : length (left_in c.in-Some.others) < length (left_in c.loop-piece.left) =
    omega (arith, ap length cut) in
    shorter

pub loop-piece-preserved : goal.loop-piece-preserved
loop-piece-preserved c =
    let cut : left_in c.loop-piece.left ≡ piece_in c.in-Some.piece ∷ left_in c.in-Some.others =
    search rules in
    taken (left_in c.args.pieces) (left_in c.loop-piece.left) (left_in c.in-Some.others)
    c.in-Some.piece cut c.loop-piece.expander c.take.new.self c.loop-piece.invariant
    c.in_ok-take.ensures.ok

pub returns-in_err-take : goal.returns-in_err-take
returns-in_err-take c =
    let cut : left_in c.loop-piece.left ≡ piece_in c.in-Some.piece ∷ left_in c.in-Some.others =
    search rules in
    let fault : c.in_err-take.field-0.0.kind ≢ Memory
    → expansion_from start (left_in c.args.pieces) ≡ Err (fault_of c.in_err-take.field-0.0) =
    failed (left_in c.args.pieces) (left_in c.loop-piece.left) (left_in c.in-Some.others)
    c.in-Some.piece cut c.loop-piece.expander c.loop-piece.invariant c.in_err-take.field-0.0
    c.in_err-take.ensures.err in
    search (rules, fault)

pub finish-requires : goal.finish-requires
finish-requires c = c.loop-piece.invariant.written.ascii

pub returns : goal.returns
returns c =
    let none : left_in c.loop-piece.left ≡ [] = search rules in
    made_whole (left_in c.args.pieces) (left_in c.loop-piece.left) none c.loop-piece.expander
    c.loop-piece.invariant c.finish.result c.finish.ensures.ok c.finish.ensures.err
