use Rattle.std.proofs.Common.{◌∙◌, ap, length, sym}
use Rattle.std.proofs.lemmas.Bool.{leb-true}
use Rattle.ga_chip.specs.Run.{moves, ran}
use Rattle.ga_chip.proofs.Turns.{skips, turn_end, turn_whole}
use Rattle.ga_chip.proofs.chip.Chip.is_still.Goals as goal

pub returns-clause-chip : goal.returns-clause-chip
returns-clause-chip c side still =
    let chip = c.args.self.now in
    let skip =
    skips chip side 0 c.next_awake.result c.next_awake.ensures.on c.next_awake.ensures.asleep in
    ap (ran chip) (sym (turn_whole side)) ∙ skip.runs
    ∙ ap (ran chip) (turn_end side c.next_awake.result (leb-true 144 c.next_awake.result still))

pub returns-clause-moves : goal.returns-clause-moves
returns-clause-moves c side still =
    let chip = c.args.self.now in
    let skip =
    skips chip side 0 c.next_awake.result c.next_awake.ensures.on c.next_awake.ensures.asleep in
    ap (λ l. length (moves chip l)) (sym (turn_whole side)) ∙ skip.moves
    ∙ ap (λ l. length (moves chip l))
    (turn_end side c.next_awake.result (leb-true 144 c.next_awake.result still))
