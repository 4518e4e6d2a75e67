-- A node is kept as its index in order of name.
use Rattle.std.specs.Prelude.{◌≡◌, ℕ, ◌<◌}
use Rattle.std.proofs.Common.{arith}
use Rattle.ga_place.specs.Cell.{index_of, name_at}

-- the name at an index has that index
pub index_back : (index : ℕ) → index < 144 → index_of (name_at index) ≡ index
index_back index below = grind arith
