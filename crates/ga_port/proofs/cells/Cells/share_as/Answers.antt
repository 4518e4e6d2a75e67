use Rattle.std.proofs.Common.{◌≡◌, ◌∙◌, arith, sym, ap}
use Rattle.ga_port.proofs.Shares.{shares}
use Rattle.ga_port.proofs.cells.Cells.share_as.Goals as goal

pub split_seat-seat-requires : goal.split_seat-seat-requires
split_seat-seat-requires g c =
    let it = c.self.inside.table.shared in
    let words : it.table_id.words ≡ 4200 = c.self.invariant.0 in (
      ap (λ z. z.table) c.seat.view_is ∙ c.requires.own ∙ sym (ap (λ z. z.table) c.self.view_is),
      omega (arith, words),
      shares it.key c.seat.inside.seat.id g.T.Chosen.names c.seat.inside.seat.me.0,
    )
