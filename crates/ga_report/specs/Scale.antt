-- The turns below a timeline, each in its place.
use Rattle.std.specs.Prelude.{ℕ, ◌*◌, ◌/◌, List, [], ◌∷◌, ◌++◌, codes}
use Rattle.std.specs.Fmt.{decimal}
use Rattle.std.specs.List.{concat, flat_map, range_with_len}
use Rattle.ga_profile.specs.declared.window.Window.{Window}
use Rattle.ga_profile.specs.NodeTurns.{more}
use Rattle.ga_profile.specs.Window.{length_of}
use Rattle.ga_report.specs.Columns.{turns_drawn}

-- how many turns some quarters of a window have
abbrev pub offset_at : Window → ℕ → ℕ
offset_at window quarters = length_of window * quarters / 4

-- A turn where it begins: as far from the left as its offset says, of a number of turns.
unfoldable pub LABEL : List ℕ
LABEL = codes "<span style='left:calc(100%*"

unfoldable pub share : ℕ → ℕ → List ℕ
share offset turns = decimal offset ++ codes "/" ++ decimal turns ++ codes ")'>"

unfoldable pub tick : ℕ → ℕ → ℕ → List ℕ
tick offset turns turn =
    concat (LABEL ∷ share offset turns ∷ decimal turn ∷ codes "</span>" ∷ [])

-- the turn behind some quarters of a window
abbrev pub tick_at : Window → ℕ → List ℕ
tick_at window quarters =
    let offset = offset_at window quarters in
    tick offset (turns_drawn window) (more window.first offset)

-- the turns at the quarters of a window, from its begin to its end
unfoldable pub ticks : Window → List ℕ
ticks window = flat_map (tick_at window) (range_with_len 0 5)

-- the scale
unfoldable pub OPENING : List ℕ
OPENING = codes "<div class='scale'>"

unfoldable pub scale : Window → List ℕ
scale window = concat (OPENING ∷ ticks window ∷ codes "</div>\n" ∷ [])
