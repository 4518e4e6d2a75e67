use Rattle.std.proofs.Common.{◌≡◌, ◌∙◌, arith, sym, ap}
use Rattle.ga_port.proofs.Steps.{own_step}
use Rattle.ga_port.proofs.cells.Cells.own_as.Goals as goal

pub load-requires : goal.load-requires
load-requires g c =
    let it = c.self.inside.table.shared in
    let words : it.table_id.words ≡ 4200 = c.self.invariant.0 in (
      ap (λ z. z.table) c.seat.view_is ∙ c.requires.own ∙ sym (ap (λ z. z.table) c.self.view_is),
      omega (arith, words),
      own_step it.key it.table_id.slots c.seat.inside.seat.id c.seat.inside.seat.me g.T.Named.what _
          _ c.requires.asks (ap (λ z. z.nodes) c.seat.view_is),
    )
