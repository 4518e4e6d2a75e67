use Rattle.std.proofs.Common.{rules, ◌≡◌, ℕ, List, option_map, subst}
use Rattle.ga_asm.specs.Text.{HasImages}
use Rattle.ga_path.specs.Names.{lists_in}
use Rattle.ga_debug.specs.Beginning.{chip_of}
use Rattle.ga_debug.specs.Head.{Loading}
use Rattle.ga_debug.specs.inner.HeadView.{head_view}
use Rattle.ga_debug.specs.inner.ReplayError.{Gives}
use Rattle.ga_debug.proofs.Loads.{chip_answers}
use Rattle.ga_debug.proofs.beginning.chip_after.Goals as goal

pub returns : goal.returns
returns c =
    let images = c.in_ok-images.images in
    let loading : option_map (λ lists. lists_in lists.now) c.as_deref.result
    ≡ option_map (λ routes. lists_in routes.items) c.args.head.now.routes = search rules in
    chip_answers (head_view c.args.head.now) images c.loaded_chip.result
    (subst (λ (source : List ℕ). HasImages source images) c.as_str.ensures.value
    c.in_ok-images.ensures.images)
    (subst (λ (loading : Loading). Gives (λ chip. chip) c.loaded_chip.result
    (chip_of loading images)) loading c.loaded_chip.ensures)
