use Rattle.std.proofs.Common.{◌≡◌, ℕ, None, Option, Some, refl}
use Rattle.ga_counts.proofs.count_watch.unfetched.Goals as goal

-- what no word is a copy of is none
only_none : (IsCopy : Option ℕ → Type 0) → ((word : ℕ) → IsCopy (Some word) → ⊥)
    → (word : Option ℕ) → IsCopy word → word ≡ None
only_none IsCopy never None is = refl
only_none IsCopy never (Some word) is = absurd (never word is)

pub returns : goal.returns
returns c = c.in_ok-executed.ensures.items_if_clones_equal (only_none _ (λ word is. is))
