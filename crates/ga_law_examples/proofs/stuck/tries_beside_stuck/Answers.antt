use Rattle.std.proofs.Common.{◌∙◌, ap, sym}
use Rattle.ga_chip.specs.Chip.{state_of}
use Rattle.ga_chip.specs.Run.{tries_of}
use Rattle.ga_chip.specs.Stuck.{LeavesStuck, has_node}
use Rattle.ga_law_examples.proofs.StateKept.{state_kept}
use Rattle.ga_law_examples.proofs.stuck.tries_beside_stuck.Goals as goal

pub returns : goal.returns
returns c =
    let chip = c.args.chip.now in
    let events = tries_of c.args.tries.now in
    let inside = has_node c.stuck-2.result in
    let left : LeavesStuck chip events inside =
    c.stuck.ensures.stuck chip inside events c.legal.ensures c.stuck-2.ensures.closed
    (λ name member. c.runs.ensures.unfed chip c.args.tries.now name) in
    record {
      chip = c.run.ensures.chip;
      moves = λ is. left.moves c.args.node (sym c.contains-is_stuck.ensures ∙ is);
      state = λ is. ap (λ after. state_of after c.args.node) c.run.ensures.chip
          ∙ state_kept chip events inside c.args.node c.stuck-2.ensures.closed left
          (sym c.contains-is_stuck.ensures ∙ is);
    }
