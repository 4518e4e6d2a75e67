use Rattle.std.proofs.Common.{◌≡◌, string_bytes}
use Rattle.ga_programs.specs.Boot.{IsBootOutput, text_by}
use Rattle.ga_input.specs.Tree.{tree_in}
use Rattle.ga_input.proofs.Faults.{answers, from_images}
use Rattle.ga_programs.proofs.boot.output.Goals as goal

pub returns-clause-output : goal.returns-clause-output
returns-clause-output c =
    let images = c.in_ok-images.images in
    answers string_bytes (λ right. text_by images (tree_in c.args.routes.now) ≡ right)
    (IsBootOutput c.args.routes.now c.args.input.now) c.boot_text.result
    (from_images (λ images right. text_by images (tree_in c.args.routes.now) ≡ right) images
    c.args.input.now c.in_ok-images.ensures) c.boot_text.ensures
