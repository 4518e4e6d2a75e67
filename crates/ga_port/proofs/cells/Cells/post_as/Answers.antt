use Rattle.std.proofs.Common.{◌≡◌, ◌∙◌, arith, sym, ap}
use Rattle.ga_port.proofs.Steps.{post_step}
use Rattle.ga_port.proofs.cells.Cells.post_as.Goals as goal

pub store-requires : goal.store-requires
store-requires g c =
    let it = c.self.inside.table.shared in
    let words : it.table_id.words ≡ 4200 = c.self.invariant.0 in (
      ap (λ z. z.table) c.seat.view_is ∙ c.requires.own ∙ sym (ap (λ z. z.table) c.self.view_is),
      omega (arith, words, c.place_of.ensures.value, c.place_of.ensures.bound),
      post_step it.key it.table_id.slots c.seat.inside.seat.id c.seat.inside.seat.me g.T.Named.what
          c.args.cell c.place_of.result c.args.word c.full.result _ c.requires.asks
          (ap (λ z. z.nodes) c.seat.view_is) c.place_of.ensures.value c.place_of.ensures.bound
          c.full.ensures.bound c.full.ensures.value,
    )
