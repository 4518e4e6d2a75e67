use Rattle.std.proofs.Common.{◌∙◌, ap, get_or, false, refl}
use Rattle.ga_profile.specs.NodeTurns.{after_step}
use Rattle.ga_profile.proofs.Keeping.{goes_on}
use Rattle.ga_profile.proofs.turn_watch.TurnWatchObserver.see.Goals as goal

pub returns : goal.returns
returns c begun steps so_far =
    let watch = c.args.self.now in
    let flag = get_or watch.spinning c.index-index.result false in
    goes_on begun watch _ c.index-index.result _ c.after_step.result c.args.step steps
    c.index-index.ensures.bound c.index-index.ensures.back watch.all refl refl refl refl
    (c.after_step.ensures
    ∙ ap (λ old. after_step watch.from flag old c.args.step) c.index.ensures) so_far
