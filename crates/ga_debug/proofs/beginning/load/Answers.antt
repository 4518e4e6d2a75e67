use Rattle.std.proofs.Common.{rules, ◌≡◌, ℕ, List, option_map, subst}
use Rattle.ga_asm.specs.Text.{HasImages}
use Rattle.ga_path.specs.Names.{lists_in}
use Rattle.ga_debug.specs.Beginning.{chip_of}
use Rattle.ga_debug.specs.Head.{Loading}
use Rattle.ga_debug.specs.ReplayError.{FailsRightly}
use Rattle.ga_debug.specs.inner.HeadView.{head_view}
use Rattle.ga_debug.proofs.Loads.{fails_to_load}
use Rattle.ga_debug.proofs.beginning.load.Goals as goal

pub returns-in_err-chip-clause-loaded : goal.returns-in_err-chip-clause-loaded
returns-in_err-chip-clause-loaded c =
    let loading : option_map (λ lists. lists_in lists.now) c.as_deref.result
    ≡ option_map (λ routes. lists_in routes.items) c.in_ok-head.head.routes = search rules in
    fails_to_load c.args.text.now (head_view c.in_ok-head.head) c.in_ok-images.images
    c.from_residual-in_err-chip.result c.in_err-chip.field-0.0
    c.in_ok-head.ensures.head
    (subst (λ (source : List ℕ). HasImages source c.in_ok-images.images) c.as_str.ensures.value
    c.in_ok-images.ensures.images)
    (subst (λ (loading : Loading). FailsRightly (λ right. chip_of loading c.in_ok-images.images
    ≡ right) c.in_err-chip.field-0.0) loading c.in_err-chip.ensures)
    c.from_residual-in_err-chip.ensures.1
