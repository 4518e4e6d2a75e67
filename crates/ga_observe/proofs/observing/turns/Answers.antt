use Rattle.std.proofs.Common.{◌≡◌, ◌∙◌, ◌+◌, ◌-◌, ap, length, refl, subst, arith}
use Rattle.ga_chip.specs.Run.{moves, ran, turns_of}
use Rattle.ga_chip.proofs.Turning.{one_more_count, one_turn, still_counts, still_more}
use Rattle.ga_observe.specs.Seen.{Sees, steps_seen, turns_numbered}
use Rattle.ga_observe.proofs.Quiet.{Quiet, all_still, quiet_more, quiet_none, still_seen, still_turn}
use Rattle.ga_observe.proofs.Watched.{sees_none, turns_go_on}
use Rattle.ga_observe.proofs.observing.turns.Goals as goal

pub loop-number-init : goal.loop-number-init
unfolding turns_of turns_numbered
loop-number-init g c = record {
  chip = refl;
  moved = refl;
  few = omega arith;
  seen = sees_none g.O.Observer.has_seen c.args.observer.now;
  quiet = quiet_none c.args.chip.now 0;
  unfinished = omega arith;
}

pub loop-number-preserved : goal.loop-number-preserved
loop-number-preserved g c =
    let so_far = c.loop-number.invariant in
    record {
      chip = one_turn c.args.chip.now c.loop-number.chip c.turn-steps.new.chip c.loop-number.number
          so_far.chip c.turn-steps.ensures.chip;
      moved = one_more_count c.args.chip.now c.loop-number.chip c.loop-number.number
          c.loop-number.moved c.from-moved.result so_far.chip so_far.moved
          (c.from-moved.ensures ∙ c.turn-steps.ensures.moved);
      few = omega (arith, so_far.few, c.from-moved.ensures);
      seen = turns_go_on g.O.Observer.has_seen c.args.observer.now c.loop-number.observer
          c.turn-steps.new.observer c.args.chip.now c.loop-number.chip c.loop-number.number
          so_far.chip so_far.seen c.turn-steps.ensures.seen;
      quiet = quiet_more c.loop-number.chip c.turn-steps.new.chip c.loop-number.number
          c.loop-number.quiet c.turn-steps.result c.quiet_after-quiet.result
          c.turn-steps.ensures.chip c.turn-steps.ensures.moved c.quiet_after-quiet.ensures.value
          so_far.quiet;
      unfinished = omega (arith, so_far.unfinished, c.quiet_after-quiet.ensures.bound);
    }

pub returns-then-quiet-eq4 : goal.returns-then-quiet-eq4
returns-then-quiet-eq4 g c =
    let so_far = c.loop-number.invariant in
    let start = c.args.chip.now in
    let chip = c.turn-steps.new.chip in
    let here = one_turn start c.loop-number.chip chip c.loop-number.number so_far.chip
    c.turn-steps.ensures.chip in
    let counted = one_more_count start c.loop-number.chip c.loop-number.number c.loop-number.moved
    c.from-moved.result so_far.chip so_far.moved
    (c.from-moved.ensures ∙ c.turn-steps.ensures.moved) in
    let quiet : Quiet chip (c.loop-number.number + 1) 4 =
    subst (Quiet chip (c.loop-number.number + 1)) c.if-quiet-eq4.true
    (quiet_more c.loop-number.chip chip c.loop-number.number c.loop-number.quiet
    c.turn-steps.result c.quiet_after-quiet.result c.turn-steps.ensures.chip
    c.turn-steps.ensures.moved c.quiet_after-quiet.ensures.value so_far.quiet) in
    let still = all_still chip (c.loop-number.number + 1) quiet in
    let more = c.args.count - (c.loop-number.number + 1) in
    let all : c.loop-number.number + 1 + more ≡ c.args.count = omega arith in
    record {
      chip = still_more start chip (c.loop-number.number + 1) more here
          (λ side. still_turn chip side (still side))
          ∙ ap (λ n. ran start (turns_of n)) all;
      moved = still_counts start chip (c.loop-number.number + 1) more
          (c.loop-number.moved + c.from-moved.result) here counted
          (λ side. still_turn chip side (still side)) still
          ∙ ap (λ n. length (moves start (turns_of n))) all;
      seen = subst (Sees g.O.Observer.has_seen c.args.observer.now c.turn-steps.new.observer)
          (still_seen start chip (c.loop-number.number + 1) more here still
          ∙ ap (λ n. steps_seen start (turns_numbered n)) all)
          (turns_go_on g.O.Observer.has_seen c.args.observer.now c.loop-number.observer
          c.turn-steps.new.observer start c.loop-number.chip c.loop-number.number so_far.chip
          so_far.seen c.turn-steps.ensures.seen);
    }

pub returns : goal.returns
returns g c =
    let so_far = c.loop-number.invariant in
    let end : c.loop-number.number ≡ c.args.count = omega arith in
    record {
      chip = so_far.chip ∙ ap (λ n. ran c.args.chip.now (turns_of n)) end;
      moved = so_far.moved ∙ ap (λ n. length (moves c.args.chip.now (turns_of n))) end;
      seen = subst (λ n. Sees g.O.Observer.has_seen c.args.observer.now c.loop-number.observer
          (steps_seen c.args.chip.now (turns_numbered n))) end so_far.seen;
    }
