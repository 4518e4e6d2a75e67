-- What an observer keeps of the transfers of a run.
use Rattle.std.specs.Prelude.{◌≡◌, ℕ, Bool, false, List, Option, None, get_or, reverse, take}
use Rattle.ga_observe.specs.declared.step.Step.{Step}
use Rattle.ga_report.specs.declared.transfers.Transfer.{Transfer}
use Rattle.ga_report.specs.Transfers.{last_post, transfers_since}

-- These are the turns of the last posts into all cells, and the first transfers from a turn on, if
-- there was memory for them.
pub record KeptTransfers (from : ℕ) (posts : List (Option ℕ)) (transfers : List Transfer)
    (has_failed : Bool) (steps : List Step) : Type 0 where
  pub last : (cell : ℕ) → get_or posts cell None ≡ last_post (reverse steps) cell
  pub first : has_failed ≡ false → transfers ≡ take 401 (transfers_since from (reverse steps))
