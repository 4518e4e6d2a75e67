use Rattle.std.proofs.Common.{◌∙◌, ap}
use Rattle.ga_views.specs.ProfileJob.{profile_after}
use Rattle.ga_views.proofs.profile.written.Goals as goal

pub returns : goal.returns
returns c = (
  c.in_ok-live.live,
  c.in_ok-live.ensures,
  c.in_ok-text.ensures
      ∙ ap (profile_after c.in_ok-live.live c.args.start) c.unwrap_or.ensures,
)
