use Rattle.std.proofs.Common.{◌≡◌, ◌∙◌, arith, sym, ap}
use Rattle.ga_port.proofs.Shares.{gathers}
use Rattle.ga_port.proofs.cells.Cells.gather.Goals as goal

pub join_seat-requires : goal.join_seat-requires
join_seat-requires c =
    let it = c.self.inside.table.shared in
    let words : it.table_id.words ≡ 4200 = c.self.invariant.0 in (
      ap (λ z. z.table) c.seat.view_is ∙ c.requires.own ∙ sym (ap (λ z. z.table) c.self.view_is),
      ap (λ z. z.table) c.other.view_is ∙ c.requires.other ∙ sym (ap (λ z. z.table) c.self.view_is),
      c.other.invariant,
      omega (arith, words),
      gathers it.key c.seat.inside.seat.id c.other.inside.seat.id c.seat.inside.seat.me.0
          c.other.inside.seat.me.0,
    )
