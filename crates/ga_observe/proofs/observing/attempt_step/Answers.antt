use Rattle.std.proofs.Common.{subst, sym}
use Rattle.ga_chip.specs.Chip.{tried}
use Rattle.ga_chip.proofs.Tries.{tried_still}
use Rattle.ga_chip.proofs.Turns.{no_move}
use Rattle.ga_observe.specs.Seen.{Sees}
use Rattle.ga_observe.proofs.Deeds.{no_step}
use Rattle.ga_observe.proofs.Watched.{sees_none}
use Rattle.ga_observe.proofs.observing.attempt_step.Goals as goal

pub returns-then-is_asleep : goal.returns-then-is_asleep
returns-then-is_asleep g c =
    let still = c.is_asleep.ensures c.args.what.side c.if-is_asleep.true in
    record {
      chip = sym (tried_still c.args.chip.now c.args.what.node c.args.what.side still);
      moved = sym (no_move (tried c.args.chip.now c.args.what.node c.args.what.side).0 still);
      seen = subst (Sees g.O.Observer.has_seen c.args.observer.now c.args.observer.now)
          (sym (no_step c.args.chip.now c.args.what.node c.args.turn c.args.what.side still))
          (sees_none g.O.Observer.has_seen c.args.observer.now);
    }
