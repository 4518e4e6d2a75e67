use Rattle.std.proofs.Common.{◌≡◌, rules}
use Rattle.ga_law_examples.specs.Spinning as model
use Rattle.ga_law_examples.proofs.SpinningRun.{spinning_agree}
use Rattle.ga_law_examples.proofs.spinning.spinning_plans.Goals as goal

pub two_plans-requires-clause-sides : goal.two_plans-requires-clause-sides
two_plans-requires-clause-sides g c κs within next other run again name =
    let first : c.in_ok-one.one ≡ model.spinning_chip = search rules in
    let second : c.in_ok-two.two ≡ model.spinning_chip = search rules in
    spinning_agree c.one_port.ensures _ _ run.tries again.tries name first second
