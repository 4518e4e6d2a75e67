use Rattle.std.proofs.Common.{◌<◌, arith, length, refl}
use Rattle.ga_profile.proofs.Writing.{works_read}
use Rattle.ga_profile.proofs.bottleneck.works_at.Goals as goal

pub returns : goal.returns
returns c =
    let nodes = c.args.nodes.now in
    let within : c.args.index < length nodes =
    omega (arith, c.requires.nodes, c.requires.index) in
    works_read nodes c.args.index _ _ within refl
