-- A part of a window from near: its timeline, with words as lines over the rows.
use Rattle.std.specs.Prelude.{ℕ, List, [], ◌∷◌, ◌++◌, codes, Option, Some, None}
use Rattle.std.specs.Borrow.{Bor}
use Rattle.std.specs.List.{concat}
use Rattle.ga_profile.specs.declared.node_turns.NodeTurns.{NodeTurns}
use Rattle.ga_report.specs.declared.close_up.CloseUp.{CloseUp}
use Rattle.ga_report.specs.Rows.{axis, rows}
use Rattle.ga_report.specs.TransferLines.{drawing_if, words_note}

-- the heading, and the begin of the rows
unfoldable pub OPENING : List ℕ
OPENING = codes "<h2>Turns in the middle</h2>\n<div class='over'>\n"

-- the rows, with the lines of words over them
unfoldable pub covered : List NodeTurns → CloseUp → List ℕ
covered nodes near =
    rows nodes near.timeline ++ drawing_if nodes near.timeline.window near.transfers.items

-- A part of a window from near.
unfoldable pub close_up_rows : List NodeTurns → CloseUp → List ℕ
close_up_rows nodes near =
    concat (OPENING ∷ covered nodes near ∷ codes "</div>\n" ∷ axis near.timeline.window
    ∷ words_note near.transfers.items ∷ [])

-- if there is one
abbrev pub close_up_part : List NodeTurns → Option (Bor CloseUp) → List ℕ
close_up_part nodes None = []
close_up_part nodes (Some near) = close_up_rows nodes near.now
