-- What is written of an output.
use Rattle.std.specs.Prelude.{◌≡◌, ℕ, Bool, List, ◌++◌, Option, take}
use Rattle.std.specs.Io.KnownBytes.{Appends}
use Rattle.ga_input.specs.declared.writes.Writes.{Writes}

-- how many calls of `write` were made, and whether one failed or a flush did
abbrev pub calls_of : Writes → ℕ
calls_of writes = writes.calls

abbrev pub has_failed : Writes → Bool
has_failed writes = writes.has_failed

-- a prefix of a text was appended to a writer's bytes, old and new, and nothing else
abbrev pub AppendsPart : Option (List ℕ) → Option (List ℕ) → List ℕ → Type 0
AppendsPart old new text = (count : ℕ) × Appends old new (take count text)

-- the front of a piece was written, and this is left of it
abbrev pub Leaves : Option (List ℕ) → Option (List ℕ) → List ℕ → List ℕ → Type 0
Leaves old new piece rest = (front : List ℕ) × Appends old new front × (front ++ rest ≡ piece)
