-- Runs of tries, one behind the other, are one run along the tries of both.
use Rattle.std.proofs.Common.{◌≡◌, ◌∙◌, ℕ, List, ◌++◌, ap, sym}
use Rattle.ga_chip.specs.declared.outcome.Try.{Try}
use Rattle.ga_chip.specs.Chip.{Chip}
use Rattle.ga_chip.specs.Joining.{RunsJoin, TriesJoin}
use Rattle.ga_chip.specs.Legal.{IsLegal}
use Rattle.ga_chip.specs.Run.{ran, tries_of}
use Rattle.ga_group.specs.Plan.{Groups}
use Rattle.ga_group.specs.Workers.{IsWorkersRun}

pub tries_joined : RunsJoin → TriesJoin → (chip : Chip) (tries more : List Try) → IsLegal chip
    → ran chip (tries_of (tries ++ more)) ≡ ran (ran chip (tries_of tries)) (tries_of more)
tries_joined joined both chip tries more legal =
    ap (ran chip) (both tries more) ∙ (joined chip (tries_of tries) (tries_of more) legal).leads

-- so are runs of workers
pub workers_joined : RunsJoin → TriesJoin → (chip next last : Chip) (plan another : Groups)
    (turns more : ℕ) (run : IsWorkersRun chip plan turns next)
    (again : IsWorkersRun next another more last) → IsLegal chip
    → last ≡ ran chip (tries_of (run.tries ++ again.tries))
workers_joined joined both chip next last plan another turns more run again legal =
    again.leads ∙ ap (λ c. ran c (tries_of again.tries)) run.leads
    ∙ sym (tries_joined joined both chip run.tries again.tries legal)
