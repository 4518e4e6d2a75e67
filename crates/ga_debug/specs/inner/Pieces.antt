-- What is left of a text that is cut at a byte.
use Rattle.std.specs.Prelude.{ℕ, List, [], Option, Some, None}
use Rattle.std.specs.Borrow.{Bor}
use Rattle.ga_debug.specs.Pieces.{pieces}

abbrev pub pieces_in : ℕ → Option (Bor (List ℕ)) → List (List ℕ)
pieces_in separator None = []
pieces_in separator (Some text) = pieces separator text.now
