use Rattle.std.proofs.Common.{◌∙◌, ap, sym}
use Rattle.ga_place.specs.Cell.{name_at}
use Rattle.ga_chip.specs.Chip.{tried}
use Rattle.ga_chip.specs.Outcome.{moved_by}
use Rattle.ga_chip.proofs.Tries.{tried_still}
use Rattle.ga_chip.proofs.Turns.{no_move}
use Rattle.ga_chip.proofs.chip.Chip.step_at.Goals as goal

pub returns-then-sleeps_at-clause-chip : goal.returns-then-sleeps_at-clause-chip
returns-then-sleeps_at-clause-chip c =
    let same = c.try_own_at.ensures.same c.if-try_own_at.false in
    sym (tried_still c.try_own_at.new.self (name_at c.args.index) c.args.side
    (c.sleeps_at.ensures c.args.side c.if-sleeps_at.true))
    ∙ ap (λ chip. (tried chip (name_at c.args.index) c.args.side).1) same

pub returns-then-sleeps_at-clause-moved : goal.returns-then-sleeps_at-clause-moved
returns-then-sleeps_at-clause-moved c =
    let same = c.try_own_at.ensures.same c.if-try_own_at.false in
    sym (no_move (tried c.try_own_at.new.self (name_at c.args.index) c.args.side).0
    (c.sleeps_at.ensures c.args.side c.if-sleeps_at.true))
    ∙ ap (λ chip. moved_by (tried chip (name_at c.args.index) c.args.side).0) same
