-- What is reported about a place in a file.
use Rattle.std.specs.Prelude.{ℕ, List, codes, Option}
use Rattle.ga_messages.specs.declared.message.Level.{Level}
use Rattle.ga_messages.specs.declared.message.Level.TheVariants.{Error, Warning}

abbrev pub level_name : Level → List ℕ
level_name Error = codes "error"
level_name Warning = codes "warning"

-- A report on a line and a column of a file: how grave it is, its kind, the node whose program has
-- the fault, what may help, and what is shown of the text: the line of the place, a caret, and what
-- the kind means.
pub record Report : Type 0 where
  pub file : List ℕ
  pub line : ℕ
  pub column : ℕ
  pub level : Level
  pub kind : List ℕ
  pub node : Option ℕ
  pub hint : Option (List ℕ)
  pub shown : List ℕ
