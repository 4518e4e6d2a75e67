use Rattle.std.proofs.Common.{ℕ, refl, subst, sym}
use Rattle.std.specs.Prelude.{[]}
use Rattle.ga_observe.specs.Seen.{steps_seen, turns_numbered}
use Rattle.ga_profile.specs.declared.window.Window.{Window}
use Rattle.ga_report.specs.inner.Trails.{KeptTrails}
use Rattle.ga_report.proofs.holders.all_trails.Goals as goal

pub returns-clause-kept : goal.returns-clause-kept
returns-clause-kept c from =
    let watch = c.in_ok-watch.watch in
    let trails = c.turns-moved.new.observer.trails.items in
    let turn = c.args.turn in
    let begun : (first : ℕ) → KeptTrails first watch.part watch.trails.items [] = λ first.
    subst (λ (part : Window). KeptTrails first part watch.trails.items [])
    (sym c.in_ok-watch.ensures.part) (c.in_ok-watch.ensures.kept first) in
    let kept = (c.turns-moved.ensures.seen watch [] (refl, begun)).1 from in
    subst (λ (part : Window). KeptTrails from part trails
    (steps_seen c.args.chip.now (turns_numbered turn))) c.in_ok-watch.ensures.part
    (subst (λ chip. KeptTrails from watch.part trails (steps_seen chip (turns_numbered turn)))
    c.in_ok-chip.ensures kept)
