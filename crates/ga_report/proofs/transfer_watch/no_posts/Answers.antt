use Rattle.std.proofs.Common.{◌≡◌, ℕ, None, Option, Some, refl}
use Rattle.ga_report.proofs.transfer_watch.no_posts.Goals as goal

-- what no turn is a copy of is none
only_none : (IsCopy : Option ℕ → Type 0) → ((turn : ℕ) → IsCopy (Some turn) → ⊥)
    → (turn : Option ℕ) → IsCopy turn → turn ≡ None
only_none IsCopy never None is = refl
only_none IsCopy never (Some turn) is = absurd (never turn is)

pub returns : goal.returns
returns c = c.in_ok-posts.ensures.items_if_clones_equal (only_none _ (λ turn is. is))
