-- A law of the definitions.
use Rattle.std.specs.Prelude.{◌≡◌, ◌&&◌, ℕ, Bool, List, filter}
use Rattle.ga_pack.specs.Model.Text.{lines_of}
use Rattle.ga_expand.specs.Expanding.{Piece, pieces_of}
use Rattle.ga_faults.specs.Sections.{is_before, is_kept, part_in}
use Rattle.ga_faults.specs.declared.sections.Section.{Section}

-- A token of a text that its part of a section has: it is before the section's end, and not between
-- the head and the section.
abbrev pub is_in_part : ℕ → Section → Piece → Bool
is_in_part head section token =
    is_before section.next token.place.line && is_kept head section.first token.place.line

-- the tokens of a part are those of the text on the lines that it has, at the same places
abbrev pub PartsKeepPlaces : Type 0
PartsKeepPlaces =
    (text : List ℕ) (head : ℕ) (section : Section)
    → pieces_of (part_in (lines_of text) head section)
    ≡ filter (is_in_part head section) (pieces_of text)
