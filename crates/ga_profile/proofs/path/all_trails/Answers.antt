use Rattle.std.proofs.Common.{refl, subst, sym}
use Rattle.std.specs.Prelude.{[]}
use Rattle.ga_observe.specs.Seen.{steps_seen, turns_numbered}
use Rattle.ga_profile.specs.declared.kinds.Kinds.{Kinds}
use Rattle.ga_profile.specs.Kinds.{kind_of}
use Rattle.ga_profile.specs.inner.Trails.{KeptTrails}
use Rattle.ga_profile.proofs.path.all_trails.Goals as goal

pub returns-clause-kept : goal.returns-clause-kept
returns-clause-kept c =
    let watch = c.in_ok-watch.watch in
    let trails = c.turns-moved.new.observer.trails.items in
    let window = c.args.window in
    let begun = subst (λ (k : Kinds). KeptTrails watch.from (kind_of k) watch.trails.items [])
    (sym c.in_ok-watch.ensures.kinds)
    (subst (λ from. KeptTrails from (kind_of c.args.kinds) watch.trails.items [])
    (sym c.in_ok-watch.ensures.from) c.in_ok-watch.ensures.kept) in
    let kept = c.turns-moved.ensures.seen watch [] (refl, (refl, begun)) in
    subst (λ from. KeptTrails from (kind_of c.args.kinds) trails
    (steps_seen c.args.chip.now (turns_numbered window.end))) c.in_ok-watch.ensures.from
    (subst (λ (k : Kinds). KeptTrails watch.from (kind_of k) trails
    (steps_seen c.args.chip.now (turns_numbered window.end))) c.in_ok-watch.ensures.kinds
    (subst (λ chip. KeptTrails watch.from (kind_of watch.kinds) trails
    (steps_seen chip (turns_numbered window.end))) c.in_ok-chip.ensures kept.1.1))
