-- What is kept of transfers, behind one step more.
use Rattle.std.proofs.Common.{◌≡◌, ◌∙◌, ℕ, zero, suc, Bool, true, false, List, [], ◌∷◌, ◌++◌, get_or, take, ap, ap₂, refl, sym}
use Rattle.std.specs.Prelude.{◌||◌, Err, Ok, OnOk, Result, is_err, Option, Some, None, replicate, reverse, if◌then◌else◌}
use Rattle.std.specs.Option.{option_to_list}
use Rattle.std.proofs.Math.Path.{fun_ext}
use Rattle.std.proofs.lemmas.List.{reverse-append}
use Rattle.ga_observe.specs.declared.step.Step.{Step}
use Rattle.ga_report.specs.declared.transfers.Transfer.{Transfer}
use Rattle.ga_report.specs.Transfers.{last_post, posts_into, transfer_by, transfers_since}
use Rattle.ga_report.specs.inner.KeptTransfers.{KeptTransfers}

-- the last one first
pub reversed_more : (steps : List Step) (step : Step)
    → reverse (steps ++ step ∷ []) ≡ step ∷ reverse steps
reversed_more steps step = reverse-append steps (step ∷ [])

-- the first items of a list that goes on are those of its first ones, gone on
take_again : {A : Type 0} (n : ℕ) (all more : List A)
    → take n (take n all ++ more) ≡ take n (all ++ more)
take_again zero all more = refl
take_again (suc n) [] more = refl
take_again (suc n) (x ∷ all) more = ap (λ l. x ∷ l) (take_again n all more)

-- neither of two tests
neither : (a b : Bool) → (a || b) ≡ false → (a ≡ false) × (b ≡ false)
neither true b is = cc
neither false b is = (refl, is)

-- an answer that isn't a failure
pub ok_of : {A E P : Type 0} (result : Result A E) → is_err result ≡ false → OnOk result P → P
ok_of (Ok value) none holds = holds
ok_of (Err error) none holds = cc

-- no post, for each cell
abbrev no_turn : Option ℕ
no_turn = None

none_anywhere : (n cell : ℕ) → get_or (replicate n no_turn) cell no_turn ≡ no_turn
none_anywhere zero cell = refl
none_anywhere (suc n) zero = refl
none_anywhere (suc n) (suc cell) = none_anywhere n cell

-- no steps
pub kept_none : (from : ℕ) (posts : List (Option ℕ)) (transfers : List Transfer)
    → posts ≡ replicate 524 None → transfers ≡ [] → KeptTransfers from posts transfers false []
kept_none from posts transfers is none = record {
  last = λ cell. ap (λ l. get_or l cell None) is ∙ none_anywhere 524 cell;
  first = λ fine. none;
}

-- one step more, which may complete a transfer
pub kept_more : (from own : ℕ) (old posts : List (Option ℕ)) (was transfers : List Transfer)
    (failed fails has : Bool) (transfer : Option Transfer) (steps : List Step) (step : Step)
    → own ≡ from → transfer ≡ transfer_by own (λ cell. get_or old cell None) step
    → (fails ≡ false → transfers ≡ take 401 (was ++ option_to_list transfer))
    → has ≡ (failed || fails)
    → ((cell : ℕ) → get_or posts cell None
    ≡ (if posts_into cell step then Some step.turn else get_or old cell None))
    → KeptTransfers from old was failed steps
    → KeptTransfers from posts transfers has (steps ++ step ∷ [])
kept_more from own old posts was transfers failed fails has transfer steps step same is pushed so
    noted kept = record {
      last = λ cell. noted cell
          ∙ ap (λ before. if posts_into cell step then Some step.turn else before)
          (kept.last cell) ∙ ap (λ all. last_post all cell) (sym (reversed_more steps step));
      first = λ fine.
          let (before, now) = neither failed fails (sym so ∙ fine) in
          pushed now ∙ ap (λ l. take 401 (l ++ option_to_list transfer)) (kept.first before)
          ∙ take_again 401 so_far (option_to_list transfer)
          ∙ ap (λ (t : Option Transfer). take 401 (so_far ++ option_to_list t)) completed
          ∙ ap (λ all. take 401 (transfers_since from all)) (sym (reversed_more steps step));
    }
  where
    so_far : List Transfer
    so_far = transfers_since from (reverse steps)

    completed : transfer ≡ transfer_by from (last_post (reverse steps)) step
    completed =
        is ∙ ap₂ (λ first (last : ℕ → Option ℕ). transfer_by first last step) same
        (fun_ext kept.last)
