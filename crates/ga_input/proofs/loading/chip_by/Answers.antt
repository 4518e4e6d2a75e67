use Rattle.std.proofs.Common.{subst, sym}
use Rattle.ga_chip.specs.Chip.{Chip}
use Rattle.ga_input.specs.Fault.{Gives}
use Rattle.ga_input.specs.Loading.{chip_by, routed_by}
use Rattle.ga_input.specs.Tree.{tree_in}
use Rattle.ga_input.specs.declared.loading.Loading.{Loading}
use Rattle.ga_input.proofs.loading.chip_by.Goals as goal

pub returns-in-Route : goal.returns-in-Route
returns-in-Route c =
    subst (λ (loading : Loading). Gives (λ (chip : Chip). chip) c.routed_chip.result
    (chip_by loading c.args.images.now)) (sym c.in-Route.is)
    (subst (λ names. Gives (λ (chip : Chip). chip) c.routed_chip.result
    (routed_by c.args.images.now (tree_in names))) c.as_str.ensures.value c.routed_chip.ensures)
