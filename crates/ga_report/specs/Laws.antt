-- Laws of the definitions.
use Rattle.std.specs.Prelude.{◌≡◌, ℕ, ◌==◌, Bool, true, ◌&&◌, not, List}
use Rattle.std.specs.List.{list_all}
use Rattle.ga_report.specs.Escape.{escaped}

-- a byte isn't "<" (60), ">" (62) or a quote (34), by which elements and attributes begin and end
abbrev pub is_plain : ℕ → Bool
is_plain byte = not (byte == 60) && (not (byte == 62) && not (byte == 34))

-- Escaped texts have only such bytes.
abbrev pub EscapedTextsArePlain : Type 0
EscapedTextsArePlain = (text : List ℕ) → list_all is_plain (escaped text) ≡ true
