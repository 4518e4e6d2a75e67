use Rattle.std.proofs.Common.{◌≡◌, ◌∙◌, ap, sym, arith}
use Rattle.ga_chip.specs.Chip.{Chip, tried}
use Rattle.ga_chip.specs.declared.outcome.Outcome.{Outcome}
use Rattle.ga_chip.proofs.Turns.{moved_once, moves_next, ran_next}
use Rattle.ga_group.proofs.Rounds.{round_next}
use Rattle.ga_group.proofs.alone.round.Goals as goal

pub loop-node-preserved : goal.loop-node-preserved
loop-node-preserved c =
    let name = c.node-item.result in
    let side = c.args.side in
    let chip = c.loop-node.chip in
    let new = c.attempt_step.new.self in
    let outcome = (tried chip name side).0 in
    let made : ◌≡◌ {A = Outcome × Chip} (outcome, new) (tried chip name side) =
    ap (λ (z : Chip). (outcome, z)) c.attempt_step.ensures.chip in
    let next = round_next c.args.nodes.now c.loop-node.node-index name side c.loop-node-test.true
    c.node-item.is in
    let moved = moves_next chip new name side outcome _ _ next made in
    record {
      runs = sym (ran_next chip new name side outcome _ _ next made) ∙ c.loop-node.invariant.runs;
      moves = omega (
        arith,
        moved,
        c.loop-node.invariant.moves,
        c.attempt_step.ensures.moved,
        c.from-moved.ensures,
      );
      few = omega (
        arith,
        moved_once outcome,
        c.loop-node.invariant.few,
        c.attempt_step.ensures.moved,
        c.from-moved.ensures,
      );
    }
