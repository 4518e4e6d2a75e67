use Rattle.ga_chip.proofs.Joining.{opened_is_open, runs_are_legal, runs_join, tries_feed_nothing, tries_join}
use Rattle.ga_chip.proofs.laws.runs.Goals as goal

pub returns : goal.returns
returns c = record {
  legal = runs_are_legal;
  joined = runs_join;
  tries = tries_join;
  unfed = tries_feed_nothing;
  opened = opened_is_open;
}
