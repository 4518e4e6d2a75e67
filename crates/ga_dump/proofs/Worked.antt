-- The definitions at worked values.
use Rattle.std.proofs.Common.{◌≡◌, [], ◌∷◌, refl}
use Rattle.std.specs.Prelude.{codes}
use Rattle.std.specs.Fmt.{digits}
use Rattle.ga_word.specs.Hex.{hex_digits}
use Rattle.ga_node.specs.State.{loaded_state, push_data, push_return, reset_state}
use Rattle.ga_node.specs.Line.{line_of}
use Rattle.ga_node.specs.Need.{need_of}
use Rattle.ga_chip.specs.Chip.{reset_chip}
use Rattle.ga_place.specs.declared.side.Side.TheVariants.{Right, Up}
use Rattle.ga_dump.specs.Ledger.{ledger_line, side_line}
use Rattle.ga_dump.specs.Memory.{memory_row}
use Rattle.ga_dump.specs.Node.{node_dump}

-- the first and the last line of a node's memory
first_row : memory_row (loaded_state 0 (0x04A12 ∷ 0x00005 ∷ 0x00003 ∷ 0x2C9B2 ∷ []) 0).ram 0
    ≡ codes "000 04A12 00005 00003 2C9B2 00000 00000 00000 00000\n"
unfolding hex_digits
first_row = refl

last_row : memory_row (reset_state 0).ram 7
    ≡ codes "038 00000 00000 00000 00000 00000 00000 00000 00000\n"
unfolding hex_digits
last_row = refl

-- a node with words on both stacks: the word pushed last is in T and R, and not in the lines below
two_stacks : node_dump (push_return 9
    (push_return 8 (push_data 3 (push_data 2 (push_data 1 (reset_state 0)))))) ≡ codes
    "node 000 P 195 A 00000 B 15D R 00009 S 00002 T 00003 C 0 io 00000 at fetch steps 0 need take\nds 00001 00000 00000 00000 00000 00000 00000 00000\nrs 00008 00000 00000 00000 00000 00000 00000 00000\n"
unfolding node_dump line_of need_of hex_digits digits
two_stacks = refl

one_ledger : ledger_line 708 Right (record { written = 12; read = 11; pending = 1 })
    ≡ codes "708 right written 12 read 11 pending 1\n"
unfolding ledger_line digits
one_ledger = refl

-- at the edge of the chip no line is there
no_neighbour : side_line reset_chip 708 Up ≡ []
unfolding side_line
no_neighbour = refl
