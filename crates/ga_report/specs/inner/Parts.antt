-- Texts of several parts.
use Rattle.std.specs.Prelude.{ℕ, List}
use Rattle.std.specs.Borrow.{Bor}
use Rattle.std.specs.List.{flat_map}

-- some texts, one behind the other
abbrev pub parts_text : List (Bor (List ℕ)) → List ℕ
parts_text parts = flat_map (λ (part : Bor (List ℕ)). part.now) parts
