use Rattle.std.proofs.Common.{string_bytes}
use Rattle.ga_views.proofs.WithWaits.{if_ok, with_waits_of}
use Rattle.ga_views.proofs.profile.profile_after.Goals as goal

pub returns : goal.returns
returns c =
    let measured = c.in_ok-profile.ensures in
    if_ok c.with_waits.result (λ text. string_bytes text) c.with_waits.ensures
    (with_waits_of c.args.live.now c.args.start c.args.turns c.in_ok-profile.profile
    c.chip.result.now c.images.result.now c.chip.ensures c.images.ensures measured.window
    measured.nodes measured.passes measured.path measured.lines measured.shorter measured.depths
    measured.chip)
