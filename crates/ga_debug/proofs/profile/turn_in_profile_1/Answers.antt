use Rattle.std.proofs.Common.{◌∙◌, ap}
use Rattle.ga_place.specs.Cell.{name_at}
use Rattle.ga_chip.specs.Outcome.{moved_by}
use Rattle.ga_debug.specs.Profile.{tried_in_profile_1}
use Rattle.ga_debug.proofs.ProfileTurns.{at_most, one_step, tries_end, tries_next, turn_of_chip}
use Rattle.ga_debug.proofs.profile.turn_in_profile_1.Goals as goal

pub returns-then-all_take_part : goal.returns-then-all_take_part
returns-then-all_take_part c =
    turn_of_chip c.args.side c.args.chip.now c.turn.new.self c.turn.result
    (λ index from below. c.all_take_part.ensures c.if-all_take_part.true index below)
    c.turn.ensures.moved c.turn.ensures.chip

pub loop-index-preserved : goal.loop-index-preserved
loop-index-preserved c =
    let loop = c.loop-index in
    let name = name_at loop.index in
    let one = tried_in_profile_1 loop.chip name c.args.side in
    let steps = c.steps_in_profile_1-moved in
    let at = ap (λ n. tried_in_profile_1 loop.chip n c.args.side) c.at.ensures in
    let counted = steps.ensures.moved ∙ ap (λ r. moved_by r.0) at in (
      tries_next loop.index loop.moved steps.result c.args.side one.0 loop.chip steps.new.chip _
          c.loop-index-test.true
          (ap (λ n. (one.0, n)) (steps.ensures.chip ∙ ap (λ r. r.1) at)) counted
          loop.invariant.0,
      at_most loop.moved loop.index steps.result loop.invariant.1
          (one_step steps.result one.0 counted),
    )

pub returns : goal.returns
returns c =
    tries_end c.loop-index.index c.loop-index.moved c.args.side c.loop-index.chip _
    c.loop-index-test.false c.loop-index.invariant.0
