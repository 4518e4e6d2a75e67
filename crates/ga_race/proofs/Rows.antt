-- A row of counts while it is joined with another.
use Rattle.std.proofs.Common.{◌≡◌, ℕ, ◌<◌, ◌≤◌, List, get_or, length}
use Rattle.std.specs.Prelude.{max}

-- the indices so far have the greater number, and the others are as they were
pub record Joined (one other steps : List ℕ) (index : ℕ) : Type 0 where
  pub long : length steps ≡ 144
  pub done : (k : ℕ) → k < index → k < 144 → get_or steps k 0
      ≡ max (get_or one k 0) (get_or other k 0)
  pub rest : (k : ℕ) → index ≤ k → get_or steps k 0 ≡ get_or one k 0
