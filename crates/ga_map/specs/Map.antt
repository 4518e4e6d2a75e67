-- The map of a chip.
use Rattle.std.specs.Prelude.{ℕ, List, [], ◌∷◌}
use Rattle.std.specs.List.{concat}
use Rattle.ga_asm.specs.Image.{ImageView}
use Rattle.ga_chip.specs.Chip.{Chip}
use Rattle.ga_waits.specs.Waits.{all_ring_lines, text_of}
use Rattle.ga_map.specs.Behind.{behind_names, line_of_behind}
use Rattle.ga_map.specs.Pending.{all_pending}
use Rattle.ga_map.specs.Picture.{LEGEND, picture}
use Rattle.ga_map.specs.Rings.{ring_nodes}

-- The picture with what its signs mean; the pending words; the rings with their nodes; and the
-- other nodes that wait for good.
unfoldable pub map_text : List (ℕ × ImageView) → Chip → List ℕ
map_text images chip =
    concat (picture chip ∷ LEGEND ∷ all_pending images chip ∷ text_of (all_ring_lines chip)
    ∷ ring_nodes images chip ∷ line_of_behind (behind_names chip) ∷ [])
