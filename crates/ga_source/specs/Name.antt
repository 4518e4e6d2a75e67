-- What a contract sees of a name.
use Rattle.std.specs.Prelude.{ℕ, List}

-- the bytes of the name, and those of the room that is left, about which no clause promises
-- anything
pub record NameText : Type 0 where
  pub bytes : List ℕ
  pub spare : List ℕ
