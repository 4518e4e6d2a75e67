-- The definitions at worked values.
use Rattle.std.proofs.Common.{◌≡◌, ℕ, ◌==◌, true, false, [], ◌∷◌, Option, Some, None, refl}
use Rattle.std.specs.Prelude.{codes, set, if◌then◌else◌}
use Rattle.std.specs.Fmt.{digits}
use Rattle.ga_word.specs.Op.{op_with}
use Rattle.ga_place.specs.Cell.{all_cells, cell_of}
use Rattle.ga_place.specs.Side.{sides_with}
use Rattle.ga_place.specs.declared.side.Side.TheVariants.{Right, Down}
use Rattle.ga_pack.specs.Decoded.{reading_of}
use Rattle.ga_pack.specs.Model.Layout.{Labels}
use Rattle.ga_node.specs.State.{booting_state, loaded_state, reset_state}
use Rattle.ga_node.specs.declared.need.Need.TheVariants as need
use Rattle.ga_node.specs.declared.place.Place.TheVariants as place
use Rattle.ga_chip.specs.Chip.{reset_chip}
use Rattle.ga_waits.specs.Begun.{has_begun}
use Rattle.ga_waits.specs.Label.{label_text}
use Rattle.ga_waits.specs.Line.{op_text}
use Rattle.ga_waits.specs.Ring.{awaits, begins_ring, ring_line, rings_of, row_behind}
use Rattle.ga_waits.specs.Sides.{act_text, end_text, told_need}

-- after reset no node has started; it has once it was given words or a stream
reset_301 : has_begun 301 (reset_state 301) ≡ false
reset_301 = refl

loaded_301 : has_begun 301 (loaded_state 301 (0x2C9B2 ∷ []) 0) ≡ true
loaded_301 = refl

booting_017 : has_begun 17 (booting_state 17) ≡ true
booting_017 = refl

-- the last label at or before P, and the first of two at one address
abbrev labels : Labels
labels = (codes "end", 5) ∷ (codes "more", 2) ∷ (codes "again", 2) ∷ []

before : label_text labels 1 ≡ []
unfolding label_text
before = refl

at_more : label_text labels 2 ≡ codes " more"
unfolding label_text
at_more = refl

behind_more : label_text labels 4 ≡ codes " more+2"
unfolding label_text digits
behind_more = refl

behind_end : label_text labels 63 ≡ codes " end+58"
unfolding label_text digits
behind_end = refl

-- the opcode of a node's slot: `@p b! @b .` in slot 2
in_slot2 : op_text place.Slot2 0x04B02 ≡ codes " @b"
unfolding reading_of op_with
in_slot2 = refl

-- sides with their neighbours: 301 has 201 below it, and 000 has no node there
down_of_301 : end_text 301 Down ≡ codes "down of 201"
down_of_301 = refl

up_of_000 : told_need reset_chip 0 (need.Take (sides_with 0x10)) ≡ codes " take up of nobody"
up_of_000 = refl

two_sides : told_need reset_chip 0 (need.Take (sides_with 0x30))
    ≡ codes " take left of nobody and up of nobody"
two_sides = refl

takes_two : act_text 0 (need.Take (sides_with 0xC0)) ≡ codes "takes right of 001/down of 100"
takes_two = refl

-- a take of one side waits for the neighbour there, unless a word is pending; a take of two waits
-- for no single one
one_side_alone : awaits reset_chip.cells 709 (need.Take (sides_with 0x80)) ≡ Some 708
unfolding reset_chip cell_of all_cells
one_side_alone = refl

word_pending : awaits (set reset_chip.cells 495 (Some 0x12)) 709 (need.Take (sides_with 0x80))
    ≡ None
unfolding reset_chip cell_of all_cells
word_pending = refl

of_two_sides : awaits reset_chip.cells 709 (need.Take (sides_with 0xC0)) ≡ None
of_two_sides = refl

unread : awaits (set reset_chip.cells 495 (Some 0x12)) 708 (need.Check Right) ≡ Some 709
unfolding reset_chip cell_of all_cells
unread = refl

was_read : awaits reset_chip.cells 708 (need.Check Right) ≡ None
unfolding reset_chip cell_of all_cells
was_read = refl

-- A ring is written from its least name on, and a node that waits for one of the ring begins none:
-- 1, 3 and 2 wait for one another, and 0 waits for 1.
abbrev round : ℕ → Option ℕ
round name =
    if name == 0 then Some 1 else if name == 1 then Some 3 else if name == 3 then Some 2
    else if name == 2 then Some 1 else None

round_rings : rings_of round ≡ (1 ∷ 3 ∷ 2 ∷ []) ∷ []
unfolding rings_of begins_ring row_behind
round_rings = refl

round_line : ring_line (1 ∷ 3 ∷ 2 ∷ []) ≡ codes "ring 001 003 002"
unfolding ring_line
round_line = refl
