use Rattle.std.proofs.Common.{◌++◌, ◌∷◌, [], subst, sym}
use Rattle.ga_chip.specs.Run.{Try}
use Rattle.ga_race.specs.inner.Way.{IsOnWay}
use Rattle.ga_race.proofs.Ways.{left, pushed}
use Rattle.ga_race.proofs.way.push_try.Goals as goal
use Rattle.ga_race.proofs.way.push_try.Goals.{else-moves-eq1-via-then-moves-eq1+else-known-eq0, else-moves-eq1-via-else-moves-eq1}

pub returns-in_ok-push : goal.returns-in_ok-push
returns-in_ok-push c start done at =
    subst (IsOnWay start c.args.reader (done ++ Try c.args.what.node c.args.what.side ∷ [])
    c.attempt.new.chip c.attempt.new.observer) (sym c.in_ok-push.ensures.items)
    (pushed start c.args.reader done c.args.chip.now c.attempt.new.chip c.args.watch.now
    c.attempt.new.observer c.args.way.now.items c.args.what.node c.args.what.side c.args.turn
    c.attempt.result
    (record { at = at; is = c.attempt.ensures.chip; sees = c.attempt.ensures.seen })
    c.moves-moves.result c.known.result c.moves-moves.ensures c.if-moves-eq1.true c.known.ensures
    c.if-known-eq0.true)

pub returns-else-moves-eq1 : goal.returns-else-moves-eq1
returns-else-moves-eq1 c start done at =
    left start c.args.reader done c.args.chip.now c.attempt.new.chip c.args.watch.now
    c.attempt.new.observer c.args.way.now.items c.args.what.node c.args.what.side c.args.turn
    c.attempt.result
    (record { at = at; is = c.attempt.ensures.chip; sees = c.attempt.ensures.seen })
    c.moves-moves.result c.moves-moves.ensures
    (elim c.else-moves-eq1.branch [
      | else-moves-eq1-via-then-moves-eq1+else-known-eq0 w ↦ (λ one.
          (w.known.result, w.known.ensures, w.if-known-eq0.false))
      | else-moves-eq1-via-else-moves-eq1 w ↦
          (λ one. absurd (w.if-moves-eq1.false one))
    ])
