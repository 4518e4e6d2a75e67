-- After reset no node has started, and none waits for only one neighbour, so the text is empty.
use Rattle.std.proofs.Common.{◌≡◌, ℕ, List, [], refl}
use Rattle.ga_place.specs.Cell.{all_cells, cell_of}
use Rattle.ga_node.specs.Need.{need_of}
use Rattle.ga_asm.specs.Image.{ImageView}
use Rattle.ga_chip.specs.Part.{asks}
use Rattle.ga_chip.specs.Chip.{reset_chip}
use Rattle.ga_waits.specs.Ring.{begins_ring, next_of, rings_of}
use Rattle.ga_waits.specs.Waits.{all_node_lines, all_ring_lines, waits_text}

after_reset : (images : List (ℕ × ImageView)) → waits_text images reset_chip ≡ []
unfolding waits_text all_node_lines all_ring_lines rings_of begins_ring next_of need_of
    asks reset_chip cell_of all_cells
after_reset images = refl
