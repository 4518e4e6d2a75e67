-- Worked values of the definitions.
use Rattle.std.proofs.Common.{◌≡◌, refl}
use Rattle.ga_place.specs.Address.{port_address_of, idle_address_of, advance_of, where_is}
use Rattle.ga_place.specs.Cell.{all_cells, cell_of, read_cell}
use Rattle.ga_place.specs.Side.{neighbour_of, side_to, sides_with}
use Rattle.std.specs.Prelude.{Some, None}
use Rattle.ga_place.specs.declared.side.Side.TheVariants.{Right, Down, Left, Up}
use Rattle.ga_place.specs.declared.address.Where.TheVariants.{Ram, Rom, Ports, Io, Unmapped}

-- the addresses of the ports
ports : (port_address_of Right ≡ 0x1D5)
    × (port_address_of Down ≡ 0x115)
    × (port_address_of Left ≡ 0x175)
    × (port_address_of Up ≡ 0x145)
ports = (refl, refl, refl, refl)

-- idle addresses
idle : (idle_address_of 101 ≡ 0x1A5)
    × (idle_address_of 708 ≡ 0x1B5)
    × (idle_address_of 709 ≡ 0x1B5)
    × (idle_address_of 0 ≡ 0x195)
idle = (refl, refl, refl, refl)

-- RAM and ROM wrap round, and a port stays
advances : (advance_of 0x07F ≡ 0x000)
    × (advance_of 0x0FF ≡ 0x080)
    × (advance_of 0x175 ≡ 0x175)
advances = (refl, refl, refl)

-- what addresses reach: RAM and its mirror, ROM and its mirror, io, one port, all four, and nothing
reached : (where_is 0x03F ≡ Ram 0x3F)
    × (where_is 0x040 ≡ Ram 0)
    × (where_is 0x0A9 ≡ Rom 0x29)
    × (where_is 0x0E9 ≡ Rom 0x29)
    × (where_is 0x15D ≡ Io)
    × (where_is 0x1D5 ≡ Ports (sides_with 0x80))
    × (where_is 0x1A5 ≡ Ports (sides_with 0xF0))
    × (where_is 0x155 ≡ Unmapped)
    × (where_is 0x141 ≡ Unmapped)
reached = (refl, refl, refl, refl, refl, refl, refl, refl, refl)

-- neighbours, and none above 708
neighbours : (neighbour_of 708 Right ≡ Some 709)
    × (neighbour_of 709 Right ≡ Some 708)
    × (neighbour_of 708 Up ≡ None)
    × (neighbour_of 708 Down ≡ Some 608)
    × (neighbour_of 608 Down ≡ Some 708)
neighbours = (refl, refl, refl, refl, refl)

-- the side to a neighbour, and to a node that is none
sides : (side_to 708 709 ≡ Some Right)
    × (side_to 708 710 ≡ None)
sides = (refl, refl)

-- the cells of 000, which has right and down, and the first of 001
cells : (cell_of 0 Right ≡ Some 0)
    × (cell_of 0 Left ≡ None)
    × (cell_of 1 Right ≡ Some 2)
    -- row 0 has 52 cells, and the last one of all is 717's at down
    × (cell_of 100 Right ≡ Some 52)
    × (cell_of 717 Down ≡ Some 523)
    -- 001 reads what 000 writes at the port that they share
    × (read_cell 1 Right ≡ Some 0)
    -- no node 018
    × (cell_of 18 Right ≡ None)
unfolding cell_of all_cells
cells = (refl, refl, refl, refl, refl, refl, refl)
