use Rattle.std.proofs.Common.{◌∙◌, ap}
use Rattle.ga_place.specs.Cell.{name_at}
use Rattle.ga_profile.specs.Bottleneck.{most_on_path}
use Rattle.ga_profile.specs.Faster.{shorter_window}
use Rattle.ga_profile.proofs.profile.profile_in.Goals as goal

pub returns-clause-shorter : goal.returns-clause-shorter
returns-clause-shorter c =
    c.in_ok-shorter.ensures
    ∙ ap (λ name. shorter_window c.args.window name c.args.goals.now c.args.chip.now)
    (c.at-on_path.ensures ∙ ap name_at (c.most_on_path.ensures.value
    ∙ ap (λ path. most_on_path path 144) c.as_slice-4.ensures.value))
