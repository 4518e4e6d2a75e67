use Rattle.std.proofs.Common.{◌∙◌, ap₂, sym, arith}
use Rattle.ga_chip.specs.Run.{ran, tries_of}
use Rattle.ga_group.specs.Workers.{round_of}
use Rattle.ga_group.proofs.Rounds.{ran_next}
use Rattle.ga_group.proofs.alone.work_alone.Goals as goal

pub loop-turn-preserved : goal.loop-turn-preserved
loop-turn-preserved g c = record {
  runs = c.round-moved.ensures.chip
      ∙ ap₂ (λ chip side. ran chip (tries_of (round_of c.args.nodes.now side)))
      c.loop-turn.invariant.runs c.side_of_turn.ensures
      ∙ sym (ran_next c.args.chip c.args.nodes.now c.loop-turn.turn);
  few = omega (arith, c.round-moved.ensures.few, c.loop-turn.invariant.few, c.requires.few);
}
