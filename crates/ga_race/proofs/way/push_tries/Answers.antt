use Rattle.std.proofs.Common.{arith, ◌∙◌, ◌++◌, ◌∷◌, [], ap, ap₂, append_assoc, subst, sym, take}
use Rattle.ga_chip.specs.Run.{Try, side_of_turn, turn_of}
use Rattle.ga_race.specs.inner.Way.{IsOnWay}
use Rattle.ga_race.proofs.TurnLists.{turn_take}
use Rattle.ga_race.proofs.way.push_tries.Goals as goal

pub loop-index-preserved : goal.loop-index-preserved
loop-index-preserved c start done at =
    let turn = turn_of (side_of_turn c.args.turn) in
    let index = c.loop-index.index in
    let here = done ++ take index turn in
    subst (λ es. IsOnWay start c.args.reader es c.push_try.new.chip c.push_try.new.watch
    c.push_try.new.way.items)
    (append_assoc done (take index turn) _
    ∙ ap (λ es. done ++ (take index turn ++ es))
    (ap₂ (λ n s. Try n s ∷ []) c.at-node.ensures c.side_of_turn-side.ensures)
    ∙ ap (λ es. done ++ es) (sym (turn_take (side_of_turn c.args.turn) index
    (omega (arith, c.loop-index-test.true, c.requires)))))
    (c.in_ok-push_try.ensures start here (c.loop-index.invariant start done at))
