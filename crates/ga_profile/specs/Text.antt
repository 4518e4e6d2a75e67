-- A profile as text.
use Rattle.std.specs.Prelude.{ℕ, Option, List, [], ◌∷◌, ◌++◌, codes}
use Rattle.std.specs.Fmt.{decimal}
use Rattle.std.specs.List.{concat}
use Rattle.ga_asm.specs.Image.{ImageView}
use Rattle.ga_chip.specs.Chip.{Chip}
use Rattle.ga_trace.specs.declared.depth.StackDepths.{StackDepths}
use Rattle.ga_profile.specs.declared.node_pass.NodePass.{NodePass}
use Rattle.ga_profile.specs.declared.node_turns.NodeTurns.{NodeTurns}
use Rattle.ga_profile.specs.declared.window.Window.{Window}
use Rattle.ga_profile.specs.Alike.{path_groups}
use Rattle.ga_profile.specs.Bottleneck.{bottleneck_text}
use Rattle.ga_profile.specs.PathTable.{groups_text}
use Rattle.ga_profile.specs.Stacks.{stacks_text}
use Rattle.ga_profile.specs.Table.{HEAD, LEGEND, rows}
use Rattle.ga_profile.specs.Window.{length_of}

-- how long a window is, and where it begins
abbrev pub window_text : Window → List ℕ
window_text window =
    decimal (length_of window) ++ codes " turns"
    ++ (codes " from turn " ++ decimal window.first ++ codes " on\n")

-- The window; a line for each node that began; the bottleneck; where the path goes; and the fullest
-- stacks. Addresses have the labels of images.
unfoldable pub profile_text : List (ℕ × ImageView) → Window → List NodeTurns
    → List (Option NodePass) → List ℕ → List ℕ → Option ℕ → List StackDepths → Chip → List ℕ
profile_text images window nodes passes path lines shorter depths chip =
    concat (window_text window ∷ HEAD ∷ rows nodes passes path (length_of window) ∷ LEGEND
    ∷ bottleneck_text chip nodes path shorter (length_of window)
    ∷ groups_text images (path_groups images path lines) (length_of window)
    ∷ stacks_text images nodes depths ∷ [])
