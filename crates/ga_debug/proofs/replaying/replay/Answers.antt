use Rattle.std.proofs.Common.{Ok, ap, subst, sym}
use Rattle.std.specs.Prelude.{ℕ}
use Rattle.std.specs.Result.{result_map_both}
use Rattle.ga_debug.specs.Replaying.{IsReplayedFrom, fault_of_line}
use Rattle.ga_debug.specs.declared.profile.Profile.{Profile}
use Rattle.ga_debug.specs.inner.HeadView.{head_view}
use Rattle.ga_debug.proofs.replaying.replay.Goals as goal

pub returns-clause-replayed : goal.returns-clause-replayed
returns-clause-replayed c =
    subst (λ (profile : Profile). IsReplayedFrom profile c.args.text.now (Ok c.in_ok-count.count))
    c.profile_of-profile.ensures (
      c.in_ok-chip.chip,
      head_view c.in_ok-head.head,
      (c.in_ok-head.ensures.head, c.in_ok-chip.ensures),
      ap (result_map_both (λ (count : ℕ). count) fault_of_line) (sym c.in_ok-count.ensures),
    )
