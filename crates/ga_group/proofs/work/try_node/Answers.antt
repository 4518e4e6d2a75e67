use Rattle.std.proofs.Common.{◌≡◌, ◌∙◌, suc, ◌+◌, ◌-◌, None, ap, arith, refl, subst, sym}
use Rattle.ga_chip.specs.Ahead.{IsFreeFor, ahead}
use Rattle.ga_chip.specs.Run.{side_of_turn}
use Rattle.ga_chip.specs.Part.{Part}
use Rattle.ga_place.specs.declared.side.Side.TheVariants.{Right}
use Rattle.ga_port.specs.Seat.{tried_in}
use Rattle.ga_group.specs.inner.Work.{IsAheadBy, IsKnown}
use Rattle.ga_group.proofs.Ahead.{ahead_entered, ahead_node, asks_own, exact_part, own_told, runs_ahead, turned_ahead, turned_once}
use Rattle.ga_group.proofs.Known.{known_own}
use Rattle.ga_group.proofs.work.try_node.Goals as goal

pub own-requires-clause-asks : goal.own-requires-clause-asks
own-requires-clause-asks c =
    let some : c.args.until.now - c.args.turn
    ≡ suc (c.args.until.now - (c.args.turn + 1)) = omega (arith, c.if-until-turn.true) in
    asks_own c.args.seat.now.nodes c.args.part.now (c.args.until.now - (c.args.turn + 1))
    c.node-node.result c.side_of_turn-side.result c.node-node.ensures
    (subst (λ k. IsAheadBy k c.args.part.now c.args.seat.now.nodes) some c.requires.ahead)

pub returns-then-until-turn-clause-turned : goal.returns-then-until-turn-clause-turned
returns-then-until-turn-clause-turned c =
    let left = c.args.until.now - (c.args.turn + 1) in
    let some : c.args.until.now - c.args.turn ≡ suc left =
    omega (arith, c.if-until-turn.true) in
    let nodes : c.own.new.seat.nodes ≡ tried_in c.args.seat.now.nodes
    (record { node = c.args.part.now.state.node; side = side_of_turn c.args.turn }) None =
    c.own.ensures.nodes ∙ ap (λ n. tried_in c.args.seat.now.nodes
    (record { node = n; side = c.side_of_turn-side.result }) None) c.node-node.ensures
    ∙ ap (λ s. tried_in c.args.seat.now.nodes
    (record { node = c.args.part.now.state.node; side = s }) None) c.side_of_turn-side.ensures in (
      None,
      nodes,
      subst (IsAheadBy left c.args.part.now) (sym nodes)
          (ahead_entered c.args.seat.now.nodes c.args.part.now left (side_of_turn c.args.turn)
          (subst (λ k. IsAheadBy k c.args.part.now c.args.seat.now.nodes) some c.requires.ahead)),
      omega (arith, some),
    )

pub try_other-requires-clause-lent : goal.try_other-requires-clause-lent
try_other-requires-clause-lent c =
    exact_part c.args.seat.now.nodes c.args.part.now c.run_own-made.new.self
    (c.args.until.now - c.args.turn) (omega (arith, c.if-until-turn.false)) c.requires.ahead
    (c.run_own-made.ensures.part ∙ ap (λ k. ahead k c.args.part.now) c.if-made-eq0.true)

pub try_other-requires-clause-known : goal.try_other-requires-clause-known
try_other-requires-clause-known c =
    subst (λ p. IsKnown p c.args.looks.now)
    (sym (c.run_own-made.ensures.part ∙ ap (λ k. ahead k c.args.part.now) c.if-made-eq0.true))
    c.requires.known

pub returns-then-made-eq0-clause-turned : goal.returns-then-made-eq0-clause-turned
returns-then-made-eq0-clause-turned c =
    turned_once c.args.seat.now.nodes c.try_other.new.seat.nodes c.args.part.now
    c.run_own-made.new.self c.try_other.new.part (side_of_turn c.args.turn)
    c.side_of_turn-side.result c.try_other.result c.args.turn c.args.until.now
    c.if-until-turn.false c.requires.ahead
    (c.run_own-made.ensures.part ∙ ap (λ k. ahead k c.args.part.now) c.if-made-eq0.true)
    c.side_of_turn-side.ensures c.try_other.ensures.tried

pub own-requires-2-clause-asks : goal.own-requires-2-clause-asks
own-requires-2-clause-asks c =
    let made = c.run_own-made.result in
    let run = c.run_own-made.ensures in
    let some : made ≡ suc (made - 1) = omega (arith, c.if-made-eq0.false) in
    let exact = exact_part c.args.seat.now.nodes c.args.part.now c.args.part.now
    (c.args.until.now - c.args.turn) (omega (arith, c.if-until-turn.false)) c.requires.ahead refl in
    let same = ap (λ (p : Part). p.state.node) run.part
    ∙ ahead_node made c.args.part.now run.free in
    asks_own c.args.seat.now.nodes c.run_own-made.new.self (made - 1) c.node-node.result
    c.side_of_turn-side.result (c.node-node.ensures ∙ sym same)
    (subst (λ k. IsAheadBy k c.run_own-made.new.self c.args.seat.now.nodes) some
    (runs_ahead c.args.seat.now.nodes c.args.part.now c.run_own-made.new.self made exact run.free
    run.part))

pub returns-clause-node : goal.returns-clause-node
returns-clause-node c =
    ap (λ (p : Part). p.state.node) c.run_own-made.ensures.part
    ∙ ahead_node c.run_own-made.result c.args.part.now c.run_own-made.ensures.free

pub returns-clause-known : goal.returns-clause-known
returns-clause-known c =
    let made = c.run_own-made.result in
    let some : made ≡ suc (made - 1) = omega (arith, c.if-made-eq0.false) in
    known_own c.args.part.now c.run_own-made.new.self c.args.looks.now
    (own_told c.args.part.now Right
    (subst (λ k. IsFreeFor k c.args.part.now) some c.run_own-made.ensures.free).0)
    c.requires.known

pub returns-clause-turned : goal.returns-clause-turned
returns-clause-turned c =
    let made = c.run_own-made.result in
    let run = c.run_own-made.ensures in
    let part = c.args.part.now in
    let nodes = c.args.seat.now.nodes in
    let exact = exact_part nodes part part (c.args.until.now - c.args.turn)
    (omega (arith, c.if-until-turn.false)) c.requires.ahead refl in
    let entered : c.own-2.new.seat.nodes ≡ tried_in nodes
    (record { node = part.state.node; side = side_of_turn c.args.turn }) None =
    c.own-2.ensures.nodes ∙ ap (λ n. tried_in nodes
    (record { node = n; side = c.side_of_turn-side.result }) None) c.node-node.ensures
    ∙ ap (λ s. tried_in nodes (record { node = part.state.node; side = s }) None)
    c.side_of_turn-side.ensures in
    turned_ahead nodes c.own-2.new.seat.nodes part c.run_own-made.new.self
    (side_of_turn c.args.turn) c.args.turn c.args.until.now made c.if-until-turn.false
    c.if-made-eq0.false exact run.free run.part entered
