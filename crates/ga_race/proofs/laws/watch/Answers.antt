use Rattle.std.proofs.Common.{sym, ◌∙◌}
use Rattle.ga_observe.specs.Laws.{events_in}
use Rattle.ga_race.proofs.Deciding as deciding
use Rattle.ga_race.proofs.Exact as exact
use Rattle.ga_race.proofs.Finding as finding
use Rattle.ga_race.proofs.Fitting as fitting
use Rattle.ga_race.proofs.Following as following
use Rattle.ga_race.proofs.Watching as watching
use Rattle.ga_race.proofs.laws.watch.Goals as goal

pub returns-clause-finds : goal.returns-clause-finds
returns-clause-finds c = λ chip events legal. (
  λ none. watching.finds_all chip (events_in events) legal
      (sym (following.finds_same chip events legal) ∙ none),
  λ race. following.finds_same chip events legal
      ∙ exact.finds_only chip (events_in events) legal race,
)

pub returns-clause-counted : goal.returns-clause-counted
returns-clause-counted c = fitting.steps_are_counted

pub returns-clause-races : goal.returns-clause-races
returns-clause-races c = deciding.watch_finds

pub returns-clause-decides : goal.returns-clause-decides
returns-clause-decides c = deciding.watch_decides

pub returns-clause-shows : goal.returns-clause-shows
returns-clause-shows c = finding.watch_shows
