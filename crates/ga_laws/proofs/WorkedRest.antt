-- What a run of turns comes to on a chip after reset.
use Rattle.std.proofs.Common.{◌≡◌, true, false, refl}
use Rattle.ga_chip.specs.Chip.{reset_chip, tried}
use Rattle.ga_chip.specs.Part.{after, asks}
use Rattle.ga_chip.specs.Run.{happened, move_in, turn_of}
use Rattle.ga_node.specs.Need.{need_of}
use Rattle.ga_node.specs.Spins.{is_spinning}
use Rattle.ga_place.specs.Cell.{all_cells, cell_of}
use Rattle.ga_trace.specs.Rest.{ran_from, spin_count, spins_with}

-- each node waits at its ports, and four turns show that the chip rests
after_reset : ((ran_from 3 0 0 0 reset_chip).0.rests ≡ false)
    × ((ran_from 4 0 0 0 reset_chip).0.rests ≡ true)
unfolding ran_from reset_chip turn_of happened tried after asks need_of move_in is_spinning
    spin_count spins_with cell_of all_cells
after_reset = (refl, refl)
