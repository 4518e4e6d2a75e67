use Rattle.std.proofs.Common.{◌≡◌, ◌∙◌, [], ◌∷◌, ap, subst, sym}
use Rattle.ga_chip.specs.Chip.{part_of}
use Rattle.ga_chip.specs.Grow.{LedgersGrow}
use Rattle.ga_chip.specs.Run.{tries_of}
use Rattle.ga_chip.proofs.Grow.{ledgers_grow}
use Rattle.ga_chip.proofs.Holds.{held_stays}
use Rattle.ga_group.specs.Workers.{IsWorkersRun, rounds_of}
use Rattle.ga_group.proofs.Rounds.{alone_run, once_alone, one_group}
use Rattle.ga_group.proofs.workers.run_workers.Goals as goal

pub returns-in-Ok-clause-held : goal.returns-in-Ok-clause-held
returns-in-Ok-clause-held g c name held =
    ap (λ chip. part_of chip name) c.run_at.ensures.leads
    ∙ held_stays c.args.chip c.run_at.ensures.tries name held

pub returns-in-Ok-clause-ledgers : goal.returns-in-Ok-clause-ledgers
returns-in-Ok-clause-ledgers g c run =
    subst (λ z. LedgersGrow c.args.chip z (tries_of run.tries)) (sym run.leads)
    (ledgers_grow c.args.chip (tries_of run.tries) c.legal.ensures)

pub returns-then-groups-eq1-clause-run : goal.returns-then-groups-eq1-clause-run
returns-then-groups-eq1-clause-run g c =
    let nodes = c.deref.result.now in
    let plan : c.args.plan.now ≡ nodes ∷ [] =
    sym c.groups-groups.ensures.value ∙ one_group c.groups-groups.result.now c.index-groups-0.result
    c.if-groups-eq1.true c.index-groups-0.is
    ∙ ap (λ l. l ∷ []) (sym c.deref.ensures.value) in
    let run = alone_run c.args.chip nodes c.args.turns
    (once_alone c.args.plan.now nodes plan c.groups-groups.ensures.faultless) in
    subst (λ p. IsWorkersRun c.args.chip p c.args.turns c.work_alone.result) (sym plan)
    (subst (λ next. IsWorkersRun c.args.chip (nodes ∷ []) c.args.turns next)
    (sym c.work_alone.ensures) run)

pub returns-then-groups-eq1-clause-held : goal.returns-then-groups-eq1-clause-held
returns-then-groups-eq1-clause-held g c name held =
    ap (λ chip. part_of chip name) c.work_alone.ensures
    ∙ held_stays c.args.chip (rounds_of c.deref.result.now c.args.turns) name held

pub returns-then-groups-eq1-clause-ledgers : goal.returns-then-groups-eq1-clause-ledgers
returns-then-groups-eq1-clause-ledgers g c run =
    subst (λ z. LedgersGrow c.args.chip z (tries_of run.tries)) (sym run.leads)
    (ledgers_grow c.args.chip (tries_of run.tries) c.legal.ensures)
