-- What the jobs write for inputs that were worked out by hand.
use Rattle.std.proofs.Common.{◌≡◌, [], ◌∷◌, refl}
use Rattle.std.specs.Prelude.{codes}
use Rattle.ga_node.specs.Need.{need_of}
use Rattle.ga_place.specs.Cell.{all_cells, cell_of}
use Rattle.ga_chip.specs.Chip.{reset_chip, tried}
use Rattle.ga_chip.specs.Part.{after, asks}
use Rattle.ga_chip.specs.Run.{happened}
use Rattle.ga_debug.specs.Command.{command_first, command_in}
use Rattle.ga_replays.specs.Debug.{replies_to}

-- an empty line is no command, and one that is refused changes nothing
replies_to_three : replies_to reset_chip (codes "pass 709" ∷ [] ∷ codes "halt"
    ∷ codes "break 709 003" ∷ []) ≡ codes "refused NotHeld\nrefused BadCommand\nok\n"
unfolding command_in command_first happened tried after asks need_of reset_chip cell_of
    all_cells
replies_to_three = refl
