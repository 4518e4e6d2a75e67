use Rattle.std.proofs.Common.{[], subst, sym}
use Rattle.ga_trace.specs.Spinning.{Watches}
use Rattle.ga_profile.proofs.Keeping.{nothing_seen, turn_more}
use Rattle.ga_profile.proofs.turn_watch.TurnWatch.turn.Goals as goal

pub returns-clause-known : goal.returns-clause-known
returns-clause-known c =
    let marked = c.mark.new.self in
    let seen = c.turn-moved.ensures.seen marked [] (nothing_seen marked) in
    subst (λ spins. Watches c.turn-moved.new.chip spins) (sym seen.spins)
    (subst (λ chip. Watches chip marked.spins) (sym c.turn-moved.ensures.chip)
    (c.known_spins.ensures c.args.chip.now c.args.number marked.spins c.legal.ensures
    c.mark.ensures.known))

pub returns-clause-run : goal.returns-clause-run
returns-clause-run c from start has =
    let marked = c.mark.new.self in
    turn_more from c.args.number start c.args.chip.now c.turn-moved.new.chip c.args.self.now marked
    c.turn-moved.new.observer c.mark.ensures.from c.mark.ensures.nodes c.mark.ensures.each
    c.turn-moved.ensures.chip (c.turn-moved.ensures.seen marked [] (nothing_seen marked)) has
