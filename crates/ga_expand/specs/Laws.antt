-- What the larger language leaves alone.
use Rattle.std.specs.Prelude.{◌≡◌, ℕ, List, Ok}
use Rattle.ga_pack.specs.Model.Program.{IsProgram, PlacedSection}
use Rattle.ga_expand.specs.Expanding.{pieces_of}
use Rattle.ga_expand.specs.Texts.{expansion}

-- a text of the plain language with a program expands to itself, token by token
abbrev pub PlainStays : List ℕ → Type 0
PlainStays text =
    (program : List PlacedSection) → IsProgram text program → expansion text ≡ Ok (pieces_of text)
