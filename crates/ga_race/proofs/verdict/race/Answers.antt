use Rattle.std.proofs.Common.{◌≡◌, ◌∙◌, ◌+◌, None, Some, ap, arith, length, refl, subst, sym}
use Rattle.std.specs.Prelude.{is_some}
use Rattle.std.proofs.lemmas.List.Elements.{All-nil}
use Rattle.ga_chip.specs.Run.{moves, ran, turns_of}
use Rattle.ga_chip.proofs.Turning.{one_more_count, one_turn}
use Rattle.ga_observe.specs.Seen.{steps_seen, turns_numbered}
use Rattle.ga_observe.proofs.Watched.{turns_steps}
use Rattle.ga_race.specs.Reads.{multiport_takes}
use Rattle.ga_race.specs.Found.{IsAmong}
use Rattle.ga_race.specs.Verdict.{IfRace, IsSo}
use Rattle.ga_race.specs.inner.Ending.{IfRound, IsFound, MadeTwice}
use Rattle.ga_race.specs.inner.Watched.{HasWatched}
use Rattle.ga_race.proofs.Judging.{found_so, if_race, if_round, kept_finds, kept_race, none_kept, take_turn}
use Rattle.ga_race.proofs.Reading.{reads_are}
use Rattle.ga_race.proofs.verdict.race.Goals as goal

pub loop-number-init : goal.loop-number-init
unfolding turns_of turns_numbered
loop-number-init c = record {
  chip = refl;
  steps = refl;
  few = omega arith;
  seen = record {
    races = record { start = refl; seen = c.in_ok-watch.ensures.seen };
    reads = omega (arith, c.in_ok-watch.ensures.reads);
  };
  quiet = none_kept c.in_ok-watch.watch.races.race
      (c.in_ok-watch.ensures.seen (All-nil _)).shows.race;
  search = c.in_ok-search.ensures;
}

pub overflow_add-steps : goal.overflow_add-steps
overflow_add-steps c = omega arith

pub loop-number-preserved : goal.loop-number-preserved
loop-number-preserved c =
    let so_far = c.loop-number.invariant in
    record {
      chip = one_turn c.args.chip.now c.loop-number.chip c.turn.new.chip c.loop-number.number
          so_far.chip c.turn.ensures.chip;
      steps = one_more_count c.args.chip.now c.loop-number.chip c.loop-number.number
          c.loop-number.steps c.from-steps.result so_far.chip so_far.steps
          (c.from-steps.ensures ∙ c.turn.ensures.moved);
      few = omega (arith, so_far.few, c.from-steps.ensures);
      seen = subst (HasWatched c.in_ok-watch.watch c.turn.new.observer)
          (turns_steps c.args.chip.now c.loop-number.chip c.loop-number.number so_far.chip)
          (c.turn.ensures.seen c.in_ok-watch.watch
          (steps_seen c.args.chip.now (turns_numbered c.loop-number.number)) so_far.seen);
      quiet = subst (IsFound c.turn.new.observer.races.race c.turn.new.chip) c.in-None.is
          c.in_ok-verdict.ensures.found;
      search = c.in_ok-verdict.ensures.search c.in-None.is c.args.chip.now c.loop-number.number
          (omega arith) so_far.search
          (one_turn c.args.chip.now c.loop-number.chip c.turn.new.chip c.loop-number.number
          so_far.chip c.turn.ensures.chip);
    }

pub returns-in-Some-clause-chip : goal.returns-in-Some-clause-chip
returns-in-Some-clause-chip c =
    one_turn c.args.chip.now c.loop-number.chip c.turn.new.chip c.loop-number.number
    c.loop-number.invariant.chip c.turn.ensures.chip
    ∙ ap (λ n. ran c.args.chip.now (turns_of n)) (sym c.reported.ensures.turns)

pub returns-in-Some-clause-steps : goal.returns-in-Some-clause-steps
returns-in-Some-clause-steps c =
    c.reported.ensures.steps
    ∙ one_more_count c.args.chip.now c.loop-number.chip c.loop-number.number c.loop-number.steps
    c.from-steps.result c.loop-number.invariant.chip c.loop-number.invariant.steps
    (c.from-steps.ensures ∙ c.turn.ensures.moved)
    ∙ ap (λ n. length (moves c.args.chip.now (turns_of n))) (sym c.reported.ensures.turns)

pub returns-in-Some-clause-verdict : goal.returns-in-Some-clause-verdict
returns-in-Some-clause-verdict c =
    let turns = c.loop-number.number + 1 in
    let races = c.turn.new.observer.races in
    let seen : HasWatched c.in_ok-watch.watch c.turn.new.observer
    (steps_seen c.args.chip.now (turns_numbered turns)) =
    subst (HasWatched c.in_ok-watch.watch c.turn.new.observer)
    (turns_steps c.args.chip.now c.loop-number.chip c.loop-number.number
    c.loop-number.invariant.chip) (c.turn.ensures.seen c.in_ok-watch.watch
    (steps_seen c.args.chip.now (turns_numbered c.loop-number.number))
    c.loop-number.invariant.seen) in
    let chip_is = one_turn c.args.chip.now c.loop-number.chip c.turn.new.chip c.loop-number.number
    c.loop-number.invariant.chip c.turn.ensures.chip in
    let start = seen.races.start ∙ c.in_ok-watch.ensures.start in
    let found : IsFound races.race (ran c.args.chip.now (turns_of turns)) (Some c.in-Some.verdict) =
    subst (λ chip. IsFound races.race chip (Some c.in-Some.verdict)) chip_is
    (subst (IsFound races.race c.turn.new.chip) c.in-Some.is c.in_ok-verdict.ensures.found) in
    let so : IsSo c.args.chip.now turns c.in-Some.verdict =
    found_so c.args.chip.now turns races.race c.in-Some.verdict c.legal.ensures
    (kept_finds c.args.chip.now turns races c.legal.ensures c.counts_fit.ensures start
    seen.races.seen)
    (kept_race c.args.chip.now turns races c.legal.ensures c.counts_fit.ensures start
    seen.races.seen) found
    (λ free. subst (λ v. IfRound v (MadeTwice c.args.chip.now turns)) c.in-Some.is
    (c.in_ok-verdict.ensures.round c.args.chip.now c.loop-number.number
    c.loop-number.invariant.search free)) in
    subst (λ n. IsSo c.args.chip.now n c.reported.result.verdict) (sym c.reported.ensures.turns)
    (subst (IsSo c.args.chip.now turns) (sym c.reported.ensures.verdict) so)

pub returns-in-Some-clause-shown : goal.returns-in-Some-clause-shown
returns-in-Some-clause-shown c =
    let turns = c.loop-number.number + 1 in
    let races = c.turn.new.observer.races in
    let chip = c.args.chip.now in
    let seen : HasWatched c.in_ok-watch.watch c.turn.new.observer
    (steps_seen chip (turns_numbered turns)) =
    subst (HasWatched c.in_ok-watch.watch c.turn.new.observer)
    (turns_steps chip c.loop-number.chip c.loop-number.number c.loop-number.invariant.chip)
    (c.turn.ensures.seen c.in_ok-watch.watch
    (steps_seen chip (turns_numbered c.loop-number.number)) c.loop-number.invariant.seen) in
    let shown : IfRace c.in-Some.verdict
    (IsAmong chip.cells (steps_seen chip (turns_numbered turns))) =
    if_race races.race c.turn.new.chip c.in-Some.verdict _
    (kept_race chip turns races c.legal.ensures c.counts_fit.ensures
    (seen.races.start ∙ c.in_ok-watch.ensures.start) seen.races.seen)
    (subst (IsFound races.race c.turn.new.chip) c.in-Some.is c.in_ok-verdict.ensures.found) in
    subst (λ n. IfRace c.reported.result.verdict
    (IsAmong chip.cells (steps_seen chip (turns_numbered n)))) (sym c.reported.ensures.turns)
    (subst (λ v. IfRace v (IsAmong chip.cells (steps_seen chip (turns_numbered turns))))
    (sym c.reported.ensures.verdict) shown)

pub returns-in-Some-clause-turn : goal.returns-in-Some-clause-turn
returns-in-Some-clause-turn c =
    take_turn c.args.chip.now c.reported.result.turns c.reported.result.verdict c.legal.ensures
    (returns-in-Some-clause-shown c)

pub returns-in-Some-clause-reads : goal.returns-in-Some-clause-reads
returns-in-Some-clause-reads c =
    let chip = c.args.chip.now in
    let turns = c.loop-number.number + 1 in
    let steps : c.loop-number.steps + c.from-steps.result ≡ length (moves chip (turns_of turns)) =
    one_more_count chip c.loop-number.chip c.loop-number.number c.loop-number.steps
    c.from-steps.result c.loop-number.invariant.chip c.loop-number.invariant.steps
    (c.from-steps.ensures ∙ c.turn.ensures.moved) in
    let seen = subst (HasWatched c.in_ok-watch.watch c.turn.new.observer)
    (turns_steps chip c.loop-number.chip c.loop-number.number c.loop-number.invariant.chip)
    (c.turn.ensures.seen c.in_ok-watch.watch
    (steps_seen chip (turns_numbered c.loop-number.number)) c.loop-number.invariant.seen) in
    c.reported.ensures.reads
    ∙ reads_are chip turns (c.loop-number.steps + c.from-steps.result)
    c.in_ok-watch.watch.multiport_reads c.turn.new.observer.multiport_reads steps
    (omega (arith, c.loop-number.invariant.few, c.from-steps.ensures)) (omega arith)
    c.in_ok-watch.ensures.reads seen.reads
    ∙ ap (λ n. multiport_takes (steps_seen chip (turns_numbered n))) (sym c.reported.ensures.turns)

pub returns-clause-reads : goal.returns-clause-reads
returns-clause-reads c =
    let chip = c.args.chip.now in
    let so_far = c.loop-number.invariant in
    let all : c.loop-number.number ≡ c.from-turns.result = omega arith in
    c.reported-2.ensures.reads
    ∙ reads_are chip c.loop-number.number c.loop-number.steps
    c.in_ok-watch.watch.multiport_reads c.loop-number.watch.multiport_reads so_far.steps so_far.few
    (omega arith) c.in_ok-watch.ensures.reads so_far.seen.reads
    ∙ ap (λ n. multiport_takes (steps_seen chip (turns_numbered n)))
    (all ∙ sym c.reported-2.ensures.turns)

pub returns-clause-verdict : goal.returns-clause-verdict
returns-clause-verdict c =
    let so_far = c.loop-number.invariant in
    let turns = c.loop-number.number in
    let all : turns ≡ c.from-turns.result = omega arith in
    let is = kept_finds c.args.chip.now turns c.loop-number.watch.races c.legal.ensures
    c.counts_fit.ensures (so_far.seen.races.start ∙ c.in_ok-watch.ensures.start)
    so_far.seen.races.seen in
    let found : IsFound None (ran c.args.chip.now (turns_of turns)) (Some c.at_rest_or.result) =
    subst (λ chip. IsFound None chip (Some c.at_rest_or.result)) so_far.chip
    (c.at_rest_or.ensures.found refl) in
    let so : IsSo c.args.chip.now turns c.at_rest_or.result =
    found_so c.args.chip.now turns None c.at_rest_or.result c.legal.ensures
    (ap is_some (sym so_far.quiet) ∙ is) (λ one e. cc) found
    (λ free. if_round (Some c.at_rest_or.result) _ (MadeTwice c.args.chip.now turns)
    (λ period e. cc) c.at_rest_or.ensures.round) in
    subst (λ n. IsSo c.args.chip.now n c.reported-2.result.verdict)
    (all ∙ sym c.reported-2.ensures.turns)
    (subst (IsSo c.args.chip.now turns) (sym c.reported-2.ensures.verdict) so)
