use Rattle.std.proofs.Common.{None, sym}
use Rattle.ga_chip.proofs.Found.{take_waits}
use Rattle.ga_chip.proofs.Parts.{still_after}
use Rattle.ga_group.proofs.Counting.{waits_still}
use Rattle.ga_group.proofs.work.take_word.Goals as goal

pub returns-then-not-poll-clause-tried : goal.returns-then-not-poll-clause-tried
returns-then-not-poll-clause-tried c =
    let waits =
    take_waits c.args.part.now c.args.what.side c.args.from c.args.cell c.requires.asks in (
      None,
      c.poll.ensures.empty c.if-not-poll.true,
      sym (still_after c.args.part.now c.args.what.side None waits),
      waits_still _ waits,
    )
