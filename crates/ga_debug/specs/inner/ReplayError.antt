-- The one answer that is right.
use Rattle.std.specs.Prelude.{◌≡◌, Result}
use Rattle.ga_debug.specs.declared.replay_error.ReplayError.{ReplayError}
use Rattle.ga_debug.specs.ReplayError.{Answers}

-- What a function answers is the one right answer, a value seen through a view, unless memory ran
-- out.
abbrev pub Gives : {A B : Type 0} → (A → B) → Result A ReplayError → Result B ReplayError → Type 0
Gives view answer expected = Answers view (λ right. expected ≡ right) answer
