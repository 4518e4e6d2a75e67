use Rattle.std.proofs.Common.{◌∙◌, ap, arith, false, subst, sym}
use Rattle.std.proofs.lemmas.Bool.{ne_eqb}
use Rattle.ga_place.specs.Cell.{name_at}
use Rattle.ga_node.specs.declared.spinning.Ahead.TheVariants as ahead
use Rattle.ga_chip.specs.Chip.{state_of}
use Rattle.ga_chip.specs.Run.{has_break}
use Rattle.ga_trace.specs.declared.spin_watch.Known.{Known}
use Rattle.ga_trace.specs.Spinning.{Knows}
use Rattle.ga_trace.proofs.Spinning.{its_known, spins_by, spins_later, spins_there, watches_set, works_now}
use Rattle.ga_trace.proofs.spin_watch.SpinWatch.spins.Goals as goal

-- what an index out of bounds would give
abbrev no_known : Known
no_known = record { steps = 0; ahead = ahead.Spins 0; is_unbroken = false }

pub spins-requires : goal.spins-requires
spins-requires c =
    (its_known c.args.chip.now c.args.self.now c.args.index c.state.result.now c.requires.index
    c.requires.watch (ap (state_of c.args.chip.now) (sym c.at-node.ensures) ∙ sym c.state.ensures)
    no_known).earlier

pub returns-in-Some-clause-value : goal.returns-in-Some-clause-value
returns-in-Some-clause-value c =
    let name = name_at c.args.index in
    let there = ap (state_of c.args.chip.now) (sym c.at-node.ensures) ∙ sym c.state.ensures in
    spins_there c.args.chip.now name c.state.result.now c.in-Some.spins there
    (c.in-Some.ensures (has_break c.args.chip.now name)
    (its_known c.args.chip.now c.args.self.now c.args.index c.state.result.now c.requires.index
    c.requires.watch there no_known))

pub returns-then-after-eq0-clause-watch : goal.returns-then-after-eq0-clause-watch
returns-then-after-eq0-clause-watch c =
    let chip = c.args.chip.now in
    let state = c.state.result.now in
    watches_set chip c.args.self.now c.args.index c.new-known.result state c.requires.index
    c.requires.watch (ap (state_of chip) (sym c.at-node.ensures) ∙ sym c.state.ensures)
    (subst (λ name. Knows (has_break chip name) c.new-known.result state) c.at-node.ensures
    (c.new-known.ensures state (sym c.state.ensures)).0)

pub returns-then-after-eq0-clause-value : goal.returns-then-after-eq0-clause-value
returns-then-after-eq0-clause-value c =
    let chip = c.args.chip.now in
    let state = c.state.result.now in
    let name = name_at c.args.index in
    spins_there chip name state _
    (ap (state_of chip) (sym c.at-node.ensures) ∙ sym c.state.ensures)
    (spins_by (has_break chip name) c.new-known.result state c.in-Spins.after c.in-Spins.is
    (subst (λ name. Knows (has_break chip name) c.new-known.result state) c.at-node.ensures
    (c.new-known.ensures state (sym c.state.ensures)).0)
    (omega (arith, c.if-after-eq0.true)))

pub returns-else-after-eq0-clause-watch : goal.returns-else-after-eq0-clause-watch
returns-else-after-eq0-clause-watch c =
    let chip = c.args.chip.now in
    let state = c.state.result.now in
    watches_set chip c.args.self.now c.args.index c.new-known.result state c.requires.index
    c.requires.watch (ap (state_of chip) (sym c.at-node.ensures) ∙ sym c.state.ensures)
    (subst (λ name. Knows (has_break chip name) c.new-known.result state) c.at-node.ensures
    (c.new-known.ensures state (sym c.state.ensures)).0)

pub returns-else-after-eq0-clause-value : goal.returns-else-after-eq0-clause-value
returns-else-after-eq0-clause-value c =
    let chip = c.args.chip.now in
    let state = c.state.result.now in
    let name = name_at c.args.index in
    let known = c.new-known.ensures state (sym c.state.ensures) in
    let same = known.1 in
    spins_there chip name state _
    (ap (state_of chip) (sym c.at-node.ensures) ∙ sym c.state.ensures)
    (ne_eqb c.in-Spins.after 0 c.if-after-eq0.false
    ∙ spins_later (has_break chip name) c.new-known.result state c.in-Spins.after c.in-Spins.is
    (subst (λ name. Knows (has_break chip name) c.new-known.result state) c.at-node.ensures
    known.0)
    (omega (arith, same, c.if-after-eq0.false)))

pub returns-in-Works-clause-watch : goal.returns-in-Works-clause-watch
returns-in-Works-clause-watch c =
    let chip = c.args.chip.now in
    let state = c.state.result.now in
    watches_set chip c.args.self.now c.args.index c.new-known.result state c.requires.index
    c.requires.watch (ap (state_of chip) (sym c.at-node.ensures) ∙ sym c.state.ensures)
    (subst (λ name. Knows (has_break chip name) c.new-known.result state) c.at-node.ensures
    (c.new-known.ensures state (sym c.state.ensures)).0)

pub returns-in-Works-clause-value : goal.returns-in-Works-clause-value
returns-in-Works-clause-value c =
    let chip = c.args.chip.now in
    let state = c.state.result.now in
    let name = name_at c.args.index in
    spins_there chip name state false
    (ap (state_of chip) (sym c.at-node.ensures) ∙ sym c.state.ensures)
    (works_now (has_break chip name) state c.new-known.result.ahead c.in-Works.states
    c.in-Works.is (c.new-known.ensures state (sym c.state.ensures)).2)
