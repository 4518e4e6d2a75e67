use Rattle.std.proofs.Common.{◌≡◌, ◌∙◌, ◌+◌, ◌-◌, length, ap, refl, subst, sym, arith}
use Rattle.ga_chip.specs.Grow.{LedgersGrow}
use Rattle.ga_chip.specs.Run.{moves, ran, turns_of}
use Rattle.ga_chip.proofs.AheadLoop.{turns_few}
use Rattle.ga_chip.proofs.Grow.{ledgers_grow}
use Rattle.ga_chip.proofs.Turning.{still_counts, still_more}
use Rattle.ga_chip.proofs.chip.Chip.turns.Goals as goal

pub loop-turn-init : goal.loop-turn-init
unfolding turns_of
loop-turn-init c = (refl, refl, omega arith)

pub overflow_add-moved : goal.overflow_add-moved
overflow_add-moved c =
    let so_far = c.loop-turn.invariant.1 in
    let counted = (c.make_block-made.ensures c.args.self.now c.loop-turn.invariant.0).1 in
    let few = turns_few c.args.self.now c.block_end-end.result in
    let within = c.block_end-end.ensures.within in
    let count = c.from-count.ensures in
    let fits = c.ranges.count.fits in
    record { fits = omega (arith, so_far, counted, few, within, count, fits) }

pub returns-then-is_still-clause-chip : goal.returns-then-is_still-clause-chip
returns-then-is_still-clause-chip c =
    let made = c.make_block-made.ensures c.args.self.now c.loop-turn.invariant.0 in
    let within = c.block_end-end.ensures.within in
    let count = c.from-count.ensures in
    let all : c.block_end-end.result + (c.args.count - c.block_end-end.result) ≡ c.args.count =
    omega (arith, within, count) in
    still_more c.args.self.now c.make_block-made.new.self c.block_end-end.result (c.args.count
    - c.block_end-end.result) made.0 (λ side. c.is_still.ensures.chip side c.if-is_still.true)
    ∙ ap (λ n. ran c.args.self.now (turns_of n)) all

pub returns-then-is_still-clause-moved : goal.returns-then-is_still-clause-moved
returns-then-is_still-clause-moved c =
    let made = c.make_block-made.ensures c.args.self.now c.loop-turn.invariant.0 in
    let within = c.block_end-end.ensures.within in
    let count = c.from-count.ensures in
    let all : c.block_end-end.result + (c.args.count - c.block_end-end.result) ≡ c.args.count =
    omega (arith, within, count) in
    still_counts c.args.self.now c.make_block-made.new.self c.block_end-end.result
    (c.args.count - c.block_end-end.result) (c.loop-turn.moved + c.make_block-made.result) made.0
    (ap (λ n. n + c.make_block-made.result) c.loop-turn.invariant.1 ∙ sym made.1)
    (λ side. c.is_still.ensures.chip side c.if-is_still.true)
    (λ side. c.is_still.ensures.moves side c.if-is_still.true)
    ∙ ap (λ n. length (moves c.args.self.now (turns_of n))) all

pub returns-then-is_still-clause-ledgers : goal.returns-then-is_still-clause-ledgers
returns-then-is_still-clause-ledgers c =
    subst (λ z. LedgersGrow c.args.self.now z (turns_of c.args.count))
    (sym (returns-then-is_still-clause-chip c))
    (ledgers_grow c.args.self.now (turns_of c.args.count) c.legal.ensures)

pub returns-clause-ledgers : goal.returns-clause-ledgers
returns-clause-ledgers c =
    let past = c.loop-turn-test.false in
    let within = c.loop-turn.invariant.2 in
    let count = c.from-count.ensures in
    let end : c.loop-turn.turn ≡ c.args.count = omega (arith, past, within, count) in
    let is = c.loop-turn.invariant.0 ∙ ap (λ n. ran c.args.self.now (turns_of n)) end in
    subst (λ z. LedgersGrow c.args.self.now z (turns_of c.args.count)) (sym is)
    (ledgers_grow c.args.self.now (turns_of c.args.count) c.legal.ensures)
