use Rattle.std.proofs.Common.{◌∙◌, ℕ, [], ap, rules, refl}
use Rattle.std.specs.Prelude.{Option}
use Rattle.ga_observe.specs.declared.step.Step.{Step}
use Rattle.ga_chip.specs.Run.{side_of_turn, turn_of}
use Rattle.ga_observe.specs.Seen.{numbered, steps_seen}
use Rattle.ga_trace.specs.Last.{last_by}
use Rattle.ga_trace.proofs.traced.made_turn.Goals as goal

pub returns : goal.returns
returns c =
    let seen = c.turn-moved.ensures.seen c.of-last.result [] (refl, refl) in
    let steps = steps_seen c.args.chip.now
    (numbered c.args.number (turn_of (side_of_turn c.args.number))) in
    record {
      chip = c.turn-moved.ensures.chip;
      moved = c.turn-moved.ensures.moved;
      step = seen.1
          ∙ ap (λ (node : ℕ). last_by node c.of-last.result.step steps) c.of-last.ensures.node
          ∙ ap (λ (found : Option Step). last_by c.args.node found steps) c.of-last.ensures.none;
      before = search rules;
    }
