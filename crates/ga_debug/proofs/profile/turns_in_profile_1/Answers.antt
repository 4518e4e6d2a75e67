use Rattle.std.proofs.Common.{◌∙◌, ◌+◌, ◌-◌, ap, arith, subst, sym}
use Rattle.ga_chip.specs.Run.{side_of_turn}
use Rattle.ga_debug.proofs.ProfileTurns.{AreIdle, idle_end, idle_next, idle_none, turns_next}
use Rattle.ga_debug.proofs.profile.turns_in_profile_1.Goals.{else-steps-eq0, then-steps-eq0}
use Rattle.ga_debug.proofs.profile.turns_in_profile_1.Goals as goal

pub returns-then-idle-eq4 : goal.returns-then-idle-eq4
returns-then-idle-eq4 c =
    let loop = c.loop-turn in
    let next = c.turn_in_profile_1-steps.new.chip in
    let side = c.side_of_turn.ensures ∙ ap side_of_turn c.from.ensures in
    let made = ap (λ n. (n, next)) c.from-moved.ensures ∙ c.turn_in_profile_1-steps.ensures in
    let idle : AreIdle next (loop.turn + 1) c.if-steps-eq0.idle =
    elim c.if-steps-eq0.branch [
      | then-steps-eq0 w ↦ subst (AreIdle next (loop.turn + 1)) (sym w.idle-is) (idle_next loop.chip
          next loop.turn loop.idle c.turn_in_profile_1-steps.result c.side_of_turn.result side
          c.turn_in_profile_1-steps.ensures w.if-steps-eq0.true loop.invariant.3)
      | else-steps-eq0 w ↦
          subst (AreIdle next (loop.turn + 1)) (sym w.idle-is) (idle_none next (loop.turn + 1))
    ] in
    idle_end (c.args.count - (loop.turn + 1)) (loop.turn + 1) (loop.moved + c.from-moved.result)
    next _ (subst (AreIdle next (loop.turn + 1)) c.if-idle-eq4.true idle)
    (turns_next c.args.count loop.turn loop.moved c.from-moved.result c.side_of_turn.result
    loop.chip next _ c.loop-turn-test.true side made loop.invariant.0)

pub loop-turn-preserved : goal.loop-turn-preserved
loop-turn-preserved c =
    let loop = c.loop-turn in
    let next = c.turn_in_profile_1-steps.new.chip in
    let side = c.side_of_turn.ensures ∙ ap side_of_turn c.from.ensures in
    let made = ap (λ n. (n, next)) c.from-moved.ensures ∙ c.turn_in_profile_1-steps.ensures in (
      turns_next c.args.count loop.turn loop.moved c.from-moved.result c.side_of_turn.result
          loop.chip next _ c.loop-turn-test.true side made loop.invariant.0,
      omega (arith, loop.invariant.1, c.from-moved.ensures, c.turn_in_profile_1-steps.type_inv),
      elim c.if-steps-eq0.branch [
        | then-steps-eq0 w ↦ omega (arith, w.idle-is, c.if-idle-eq4.false, loop.invariant.2)
        | else-steps-eq0 w ↦ omega (arith, w.idle-is)
      ],
      elim c.if-steps-eq0.branch [
        | then-steps-eq0 w ↦
            subst (AreIdle next (loop.turn + 1)) (sym w.idle-is) (idle_next loop.chip next loop.turn
            loop.idle c.turn_in_profile_1-steps.result c.side_of_turn.result side
            c.turn_in_profile_1-steps.ensures w.if-steps-eq0.true loop.invariant.3)
        | else-steps-eq0 w ↦
            subst (AreIdle next (loop.turn + 1)) (sym w.idle-is) (idle_none next (loop.turn + 1))
      ],
    )
