use Rattle.std.proofs.Common.{refl, subst, sym}
use Rattle.std.specs.Prelude.{[]}
use Rattle.ga_observe.specs.Seen.{steps_seen, turns_numbered}
use Rattle.ga_profile.specs.inner.KeptPasses.{KeptPasses}
use Rattle.ga_profile.proofs.node_pass.all_places.Goals as goal

pub returns-clause-kept : goal.returns-clause-kept
returns-clause-kept c =
    let watch = c.in_ok-watch.watch in
    let places = c.turns-moved.new.observer.places.items in
    let kept = c.turns-moved.ensures.seen watch [] (
      refl,
      subst (λ from. KeptPasses from watch.places.items []) (sym c.in_ok-watch.ensures.from)
          c.in_ok-watch.ensures.kept,
    ) in
    subst (λ from. KeptPasses from places
    (steps_seen c.args.chip.now (turns_numbered c.args.window.end))) c.in_ok-watch.ensures.from
    (subst (λ chip. KeptPasses watch.from places
    (steps_seen chip (turns_numbered c.args.window.end))) c.in_ok-chip.ensures kept.1)
