-- Texts as they are written in a page.
use Rattle.std.specs.Prelude.{ℕ, ◌==◌, ◌||◌, List, codes, if◌then◌else◌}
use Rattle.std.specs.Char.{encode_utf8}
use Rattle.std.specs.List.{flat_map}
use Rattle.std.specs.Str.{chars}
use Rattle.ga_messages.specs.Shown.{shown_char}

-- A character as a page shows it: a line feed (10) as it is, and any other one as everywhere. For
-- the noncharacters FFFE and FFFF, which XML lacks, it is the replacement character.
abbrev pub drawn : ℕ → ℕ
drawn character =
    if character == 10 then 10
    else if (character == 0xFFFE) || (character == 0xFFFF) then 0xFFFD
    else shown_char character

-- a character as it is written: "&" (38), "<" (60), ">" (62) and a quote (34) by name
abbrev pub escaped_char : ℕ → List ℕ
escaped_char character =
    if character == 38 then codes "&amp;"
    else if character == 60 then codes "&lt;"
    else if character == 62 then codes "&gt;"
    else if character == 34 then codes "&quot;"
    else encode_utf8 (drawn character)

-- A text as it is written, by its bytes.
unfoldable pub escaped : List ℕ → List ℕ
escaped text = flat_map escaped_char (chars text)
