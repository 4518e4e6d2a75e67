use Rattle.std.proofs.Common.{string_bytes}
use Rattle.ga_input.specs.Tree.{tree_in}
use Rattle.ga_programs.specs.Run.{IsRunOf, IsRunOutput}
use Rattle.ga_input.proofs.Faults.{answers, from_images}
use Rattle.ga_programs.proofs.OneRun.{run_outputs}
use Rattle.ga_programs.proofs.run.output.Goals as goal

pub returns-clause-output : goal.returns-clause-output
returns-clause-output g c =
    let images = c.in_ok-images.images in
    answers string_bytes (IsRunOf images c.args.workers c.args.turns (tree_in c.args.routes.now))
    (IsRunOutput c.args.routes.now c.args.workers c.args.turns c.args.input.now) c.run_text.result
    (from_images (λ images. IsRunOf images c.args.workers c.args.turns (tree_in c.args.routes.now))
    images c.args.input.now c.in_ok-images.ensures) c.run_text.ensures

pub returns-in_err-images-clause-only : goal.returns-in_err-images-clause-only
returns-in_err-images-clause-only g c =
    run_outputs c.args.routes.now c.args.input.now c.args.workers c.args.turns

pub returns-clause-only : goal.returns-clause-only
returns-clause-only g c = run_outputs c.args.routes.now c.args.input.now c.args.workers c.args.turns
