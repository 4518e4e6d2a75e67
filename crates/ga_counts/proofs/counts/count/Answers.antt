use Rattle.std.proofs.Common.{subst}
use Rattle.std.specs.Prelude.{[]}
use Rattle.ga_observe.specs.Seen.{steps_seen, turns_numbered}
use Rattle.ga_counts.specs.Counts.{counts_of}
use Rattle.ga_counts.specs.inner.Kept.{Kept}
use Rattle.ga_counts.proofs.Keeping.{kept_all}
use Rattle.ga_counts.proofs.counts.count.Goals as goal

pub returns : goal.returns
unfolding counts_of
returns c =
    let watch = c.turns-moved.new.observer in
    let kept = c.turns-moved.ensures.seen c.in_ok-watch.watch [] c.in_ok-watch.ensures in
    kept_all watch.executed.items watch.words.items
    (steps_seen c.args.chip.now (turns_numbered c.args.turns)) watch.all
    (subst (λ chip. Kept watch.executed.items watch.words.items
    (steps_seen chip (turns_numbered c.args.turns))) c.in_ok-copy.ensures kept)
