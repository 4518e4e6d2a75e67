use Rattle.std.proofs.Common.{◌∙◌, ap, ap₂}
use Rattle.ga_chip.specs.Chip.{Chip}
use Rattle.ga_profile.specs.declared.window.Window.{Window}
use Rattle.ga_profile.specs.Profile.{ended}
use Rattle.ga_profile.proofs.Keeping.{all_watched}
use Rattle.ga_report.proofs.watched.nodes_by.Goals as goal

pub returns-clause-nodes : goal.returns-clause-nodes
returns-clause-nodes c start has =
    let window : Window = record { first = 0; end = c.args.turns } in
    let watch = c.args.watch.now in
    c.in_ok-nodes.ensures.nodes
    ∙ ap (λ nodes. ended window nodes c.args.chip.now) c.as_slice.ensures.value
    ∙ ap₂ (λ nodes (chip : Chip). ended window nodes chip)
    (all_watched 0 c.args.turns start c.args.chip.now watch watch.all has) has.chip
