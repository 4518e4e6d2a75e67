use Rattle.std.proofs.Common.{[], refl}
use Rattle.ga_chip.specs.Run.{side_of_turn, turn_of}
use Rattle.ga_observe.specs.Seen.{numbered, steps_seen}
use Rattle.ga_trace.proofs.AllNodes.{seen_none, turn_made}
use Rattle.ga_trace.proofs.all_nodes.make_turn.Goals as goal

pub returns-clause-depths : goal.returns-clause-depths
returns-clause-depths c =
    let begun = c.start.new.self in
    let seen = c.turn-moved.ensures.seen begun [] (seen_none begun.nodes.items) in
    turn_made c.args.number c.args.chip.now begun.nodes.items
    c.turn-moved.new.observer.nodes.items
    (steps_seen c.args.chip.now (numbered c.args.number (turn_of (side_of_turn c.args.number))))
    c.args.depths.now.items c.add_steps.new.depths.items c.start.ensures seen (λ name. refl)
    c.add_steps.ensures
