use Rattle.std.proofs.Common.{◌≡◌, ◌-◌, ◌∙◌, Some, arith, sym, ap, subst}
use Rattle.std.proofs.lemmas.Bool.{eqb-false}
use Rattle.ga_port.specs.Cells.{AsksToCheck}
use Rattle.ga_port.specs.Seat.{tried_in}
use Rattle.ga_port.proofs.Moves.{check_any, pending_full}
use Rattle.ga_port.proofs.Steps.{check_step}
use Rattle.ga_port.proofs.cells.Cells.check_as.Goals as goal

pub load-held-requires : goal.load-held-requires
load-held-requires g c =
    let it = c.self.inside.table.shared in
    let words : it.table_id.words ≡ 4200 = c.self.invariant.0 in (
      ap (λ z. z.table) c.seat.view_is ∙ c.requires.own ∙ sym (ap (λ z. z.table) c.self.view_is),
      omega (arith, words, c.place_of.ensures.value, c.place_of.ensures.bound),
      check_step it.key it.table_id.slots c.seat.inside.seat.id c.seat.inside.seat.me g.T.Named.what
          c.args.cell c.place_of.result _ c.requires.asks
          (ap (λ z. z.nodes) c.seat.view_is) c.place_of.ensures.value c.place_of.ensures.bound,
    )

pub returns-clause-unread : goal.returns-clause-unread
returns-clause-unread g c word full =
    let nodes = (ap (λ z. z.nodes) c.seat.view_is) in
    let asked = subst (λ n. AsksToCheck n g.T.Named.what c.args.cell) (sym nodes) c.requires.asks in
    ap (λ m. m.0) c.load-held.ensures.2.1
    ∙ ap (tried_in c.seat.inside.seat.me.0 g.T.Named.what)
    (pending_full c.load-held.result (eqb-false c.load-held.result 0 full))
    ∙ check_any c.seat.inside.seat.me.0 g.T.Named.what c.args.cell
    (c.load-held.result - 262144) word asked
    ∙ ap (λ n. tried_in n g.T.Named.what (Some word)) nodes
