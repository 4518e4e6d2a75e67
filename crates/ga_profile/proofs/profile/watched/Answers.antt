use Rattle.ga_profile.proofs.Keeping.{all_watched}
use Rattle.ga_profile.proofs.profile.watched.Goals as goal

pub advance-requires-clause-known : goal.advance-requires-clause-known
advance-requires-clause-known c = c.in_ok-watch.ensures.known c.args.chip.now

pub returns-clause-chip : goal.returns-clause-chip
returns-clause-chip c =
    let begun = c.in_ok-watch.ensures.run c.args.chip.now in
    (c.advance.ensures.run c.args.from c.args.chip.now begun).chip

pub returns-clause-nodes : goal.returns-clause-nodes
returns-clause-nodes c =
    let start = c.args.chip.now in
    let watch = c.advance.new.self in
    all_watched c.args.from c.args.count start c.advance.new.chip watch watch.all
    (c.advance.ensures.run c.args.from start (c.in_ok-watch.ensures.run start))
