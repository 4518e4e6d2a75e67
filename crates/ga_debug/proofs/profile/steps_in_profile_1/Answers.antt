use Rattle.ga_debug.proofs.ProfileTurns.{asleep_still}
use Rattle.ga_debug.proofs.profile.steps_in_profile_1.Goals as goal

pub returns-then-is_asleep : goal.returns-then-is_asleep
returns-then-is_asleep c =
    let still = asleep_still c.args.chip.now c.args.node c.args.side
    (c.is_asleep.ensures c.args.side c.if-is_asleep.true) in record {
      chip = still.0;
      moved = still.1;
    }
