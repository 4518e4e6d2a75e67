-- The definitions at worked values.
use Rattle.std.proofs.Common.{◌≡◌, ℕ, ◌==◌, true, false, [], Option, Some, None, refl}
use Rattle.std.specs.Prelude.{codes, set, if◌then◌else◌}
use Rattle.std.specs.Fmt.{digits}
use Rattle.ga_word.specs.Hex.{hex_digits}
use Rattle.ga_place.specs.Cell.{all_cells, cell_of}
use Rattle.ga_place.specs.Side.{direction_of, East, South, sides_with}
use Rattle.ga_place.specs.declared.side.Side.TheVariants.{Right, Up}
use Rattle.ga_node.specs.Need.{need_of}
use Rattle.ga_node.specs.declared.need.Need.TheVariants as need
use Rattle.ga_chip.specs.Chip.{Chip, reset_chip}
use Rattle.ga_chip.specs.Part.{asks}
use Rattle.ga_trace.specs.At.{at_word}
use Rattle.ga_map.specs.Behind.{line_of_behind}
use Rattle.ga_map.specs.Link.{east_side, east_text, link_at, south_side}
use Rattle.ga_map.specs.Mark.{goes_on}
use Rattle.ga_map.specs.Pending.{node_pending, pending_line}
use Rattle.ga_map.specs.Picture.{node_line, row_cells, shown_line, south_line}
use Rattle.ga_map.specs.Position.{position}
use Rattle.ga_map.specs.Rings.{comes_back}

-- a chip on which a word of 708 to 709 is pending
abbrev posted_708 : Chip
posted_708 = record { parts = reset_chip.parts; cells = set reset_chip.cells 495 (Some 0x12) }

-- the sides that face east and south
even_column : direction_of 708 (east_side 708) ≡ East
even_column = refl

odd_column : direction_of 709 (east_side 709) ≡ East
odd_column = refl

even_row : direction_of 208 (south_side 208) ≡ South
even_row = refl

odd_row : direction_of 301 (south_side 301) ≡ South
odd_row = refl

-- the word on the way east, from both its ends, and no word behind it
from_writer : east_text (link_at posted_708 708 (east_side 708)) ≡ codes ">"
unfolding reset_chip cell_of all_cells
from_writer = refl

from_reader : east_text (link_at posted_708 709 Right) ≡ codes "<"
unfolding reset_chip cell_of all_cells
from_reader = refl

behind_reader : east_text (link_at posted_708 709 (east_side 709)) ≡ codes " "
unfolding reset_chip cell_of all_cells
behind_reader = refl

-- who goes on: the reader, not the writer, which checks; nobody posts up from row 0
reader_goes_on : goes_on posted_708 709 (need.Take (sides_with 0x80)) ≡ true
unfolding reset_chip cell_of all_cells
reader_goes_on = refl

other_side : goes_on posted_708 709 (need.Take (sides_with 0x20)) ≡ false
unfolding reset_chip cell_of all_cells
other_side = refl

writer_waits : goes_on posted_708 708 (need.Check Right) ≡ false
unfolding reset_chip cell_of all_cells
writer_waits = refl

posts_to_nobody : goes_on reset_chip 0 (need.Post Up 5) ≡ false
posts_to_nobody = refl

-- lines lose the blanks at their ends, and one of blanks isn't shown
one_link : shown_line (codes "     v    ") ≡ codes "     v\n"
unfolding shown_line
one_link = refl

no_link : shown_line (codes "          ") ≡ []
unfolding shown_line
no_link = refl

-- a row after reset, and the links below it
after_reset : node_line reset_chip 7
    ≡ codes "7   .   .   .   .   .   .   .   .   .   .   .   .   .   .   .   .   .   .\n"
unfolding shown_line row_cells digits need_of reset_chip cell_of all_cells
after_reset = refl

no_links : south_line reset_chip 7 ≡ []
unfolding shown_line row_cells need_of reset_chip cell_of all_cells
no_links = refl

-- a pending word and its reader, which stands at its idle address
to_idle : node_pending [] posted_708 708
    ≡ codes "pending 708 to 709 00012  709 at 1B5 takes right of 708/down of 609/left of 710\n"
unfolding node_pending pending_line position at_word need_of asks hex_digits reset_chip
    cell_of all_cells
to_idle = refl

-- 1, 3 and 2 wait for one another, and 0 waits for 1
abbrev round : ℕ → Option ℕ
round name =
    if name == 0 then Some 1 else if name == 1 then Some 3 else if name == 3 then Some 2
    else if name == 2 then Some 1 else None

in_round : comes_back round 2 144 (round 2) ≡ true
in_round = refl

before_round : comes_back round 0 144 (round 0) ≡ false
before_round = refl

names_behind : line_of_behind (codes " 408 409") ≡ codes "stuck: 408 409\n"
names_behind = refl
